-- One attempt ends, by its pick or by the wire, in the channel and in the session: from the point at which its end is next, to the one at which nothing more follows
-- from it but resets. What the channel does is one step; the session does one action after the other (gRPC over HTTP/2, "Errors"; gRFC A6, "Transparent Retries",
-- "When Retries are Valid" and "Hedging Policy").
-- Example: link 1 is lost, with attempt 1 of call 1 on it, whose plan is to retry. AttemptEnds 1; a retry is due after its wait; nothing follows. The channel's
-- ledger has the end of row 1, its bucket a token less, and call 1 its moment among those that are due.
use Rattle.std.specs.List.{list_all}
use Rattle.std.specs.Prelude.{Bool, List, None, Option, Some, [], false, is_some, length, nat_le, true, ℕ, ◌∷◌, ◌≡◌}
use Rattle.attempt_buffer.specs.Buffers.{Buffered, Committed}
use Rattle.attempt_ledger.specs.TransparentRows.{is_unsent}
use Rattle.attempt_ledger.specs.declared.news.EndNews.{EndNews}
use Rattle.attempt_ledger.specs.declared.news.News.TheVariants as news
use Rattle.attempt_ledger.specs.declared.row.Placed.{Placed}
use Rattle.attempt_ledger.specs.declared.row.RowEnd.{RowEnd}
use Rattle.call_actions.specs.Laws.{IsEnding, news_of}
use Rattle.call_cases.specs.EndsFollow.Cuts.{NoStreamIsToReset}
use Rattle.call_cases.specs.EndsFollow.Laws.{is_late}
use Rattle.channel_actions.specs.GoingCalls.Going.{CallsGoOn}
use Rattle.channel_actions.specs.OwnStreams.Own.{StreamsAreApart}
use Rattle.channel_actions.specs.Points.{IsSameEntry}
use Rattle.channel_actions.specs.Sets.{is_in_outstanding}
use Rattle.end_cases.specs.AttemptEnds.Ahead.{AgreesAhead, AgreesOffLinks, LinksAhead}
use Rattle.end_cases.specs.AttemptEnds.Left.{AttemptsAreThere, all_left}
use Rattle.end_cases.specs.AttemptEnds.Runs.{RunsRise}
use Rattle.channel_core.specs.Books.{slot_at}
use Rattle.channel_core.specs.States.{StateSeen}
use Rattle.channel_core.specs.Steps.{left_after, stamped_gone, reported, unqueued}
use Rattle.channel_core.specs.declared.state.slots.CallSlot.{CallSlot}
use Rattle.session_actions.specs.Actions.{following}
use Rattle.session_actions.specs.AttemptEnds.{attempt_ended, end_of}
use Rattle.session_actions.specs.Attempts.{is_to_follow}
use Rattle.session_actions.specs.Laws.{posted_in}
use Rattle.session_actions.specs.Sessions.{Does}
use Rattle.session_actions.specs.Words.{numbered}
use Rattle.session_actions.specs.declared.action.Action.{Action}
use Rattle.session_actions.specs.declared.action.Action.TheVariants as action
use Rattle.session_actions.specs.declared.attempt.Attempt.{Attempt}
use Rattle.session_actions.specs.declared.call.Call.{Call}
use Rattle.session_actions.specs.declared.entry.OpenEntry.{OpenEntry}
use Rattle.session_actions.specs.declared.response.Outcome.{Outcome}
use Rattle.session_actions.specs.declared.seen.Seen.{Seen}
use Rattle.session_order.specs.Quiescent.{IsStill}
use Rattle.session_order.specs.declared.line.Line.{Line}
use Rattle.session_order.specs.declared.line.Line.TheVariants as line

-- what the channel does: the attempt leaves the queue, or those that are outstanding; its call is notified of the end, and is followed. Its link is gone where it is
-- over, or takes no further attempt and this was the last one on it
abbrev pub taken_off : ℕ → ℕ → Option Placed → StateSeen → StateSeen
taken_off call row None x = unqueued call row x
taken_off call row (Some at) x = left_after at.link row x

abbrev pub gone_with : Option Placed → StateSeen → StateSeen
gone_with None x = x
gone_with (Some at) x = stamped_gone at.link x

abbrev pub ended_in : Attempt → EndNews → StateSeen → StateSeen
ended_in a end x = gone_with a.row.placed (reported a.place (news.Ended a.place end) (taken_off a.row.call a.place a.row.placed x))

-- the two lines by which an attempt ends that is not cut off; and those that may wait until all that one action ends has ended
abbrev pub is_of_ends : Line → Bool
is_of_ends line.Pick = true
is_of_ends line.WireEnd = true
is_of_ends _ = false

abbrev pub may_wait : Line → Bool
may_wait line.WireEnd = true
may_wait line.Reset = true
may_wait l = is_late l

-- what a buffer holds for rows is for those that are there; and while it is committed, it is for that row alone (of the channel alone: `sound_calls`, `sound_buffers`)
pub record IsHeld (rows : ℕ) (b : Buffered) : Type 0 where
  pub rows_are : list_all (λ k. nat_le k.row rows) b.cursors ≡ true
  pub alone : (m : Committed) → b.committed ≡ Some m → b.cursors ≡ []

abbrev pub AreHeld : StateSeen → Type 0
AreHeld x = (number : ℕ) (slot : CallSlot) → slot_at x.book number ≡ Some slot → IsHeld (length x.book.ledger.rows) slot.call.buffer

-- the end of an attempt is next. The links of the channel are as they are once it has ended, and the others that the same frame ended: the frame took them off their
-- link, and queued the resets of their streams. (A link that is over is stamped as gone in the session at once, and in the channel with the first attempt that ends.)
pub record EndNext (later : List (ℕ × RowEnd)) (waits : Line → Bool) (also : List ℕ) (a : Attempt) (out : Outcome) (x : StateSeen) (o : OpenEntry) (s : Seen) : Type 0 where
  pub late : (l : Line) → waits l ≡ true → may_wait l ≡ true
  pub current : s.current ≡ Some o
  pub call : Call
  pub there : numbered s.calls a.row.call ≡ Some call
  pub ending : IsEnding s call a.place a out
  pub next : following s ≡ Some (action.AttemptEnds a.place (end_of a out s))
  pub still : (l : Line) → is_of_ends l ≡ false → waits l ≡ false → IsStill l o s
  pub books : AgreesOffLinks (gone_with a.row.placed x) s
  pub links : LinksAhead also x (all_left later (attempt_ended a.place (end_of a out s) s))
  pub among : AttemptsAreThere later s
  pub unreset : NoStreamIsToReset s
  -- no two attempts of a link have one stream (every session keeps this: `own_streams`)
  pub apart : StreamsAreApart s.attempts
  pub rising : RunsRise s
  -- of the channel alone (`going_calls`)
  pub going : CallsGoOn x
  -- where a transparent retry follows: nothing is held for it yet
  pub held : is_to_follow call out.cause out.unseen s ≡ true → AreHeld x
  -- one that was never sent waited on a link for a stream
  pub unsent : is_unsent out.cause ≡ true → (is_some a.row.placed ≡ true) × (a.row.stream ≡ None)

-- the session after it: in the same entry, at the same stage, with nothing that follows at once but these lines, ends by the wire, and resets
pub record HasEnded (later : List (ℕ × RowEnd)) (waits : Line → Bool) (also : List ℕ) (a : Attempt) (out : Outcome) (x : StateSeen) (o : OpenEntry) (s : Seen) : Type 0 where
  pub actions : List Action
  pub seen : Seen
  pub entry : OpenEntry
  pub does : Does (action.AttemptEnds a.place (end_of a out s) ∷ actions) s seen
  pub posts : posted_in actions ≡ []
  pub same : IsSameEntry o s entry seen
  pub stage : entry.stage ≡ o.stage
  pub reply : entry.reply ≡ o.reply
  pub turn : entry.turn ≡ o.turn
  pub current : seen.current ≡ Some entry
  pub still : (l : Line) → may_wait l ≡ false → IsStill l entry seen
  pub late : (l : Line) → is_late l ≡ true → waits l ≡ false → IsStill l entry seen
  -- where no attempt ended by the wire, none does
  pub wire : IsStill line.WireEnd o s → IsStill line.WireEnd entry seen
  -- no attempt is outstanding that was not
  pub fewer : (link row : ℕ) → is_in_outstanding seen link row ≡ true → is_in_outstanding s link row ≡ true
  pub agrees : AgreesAhead later also (ended_in a (news_of a out s) x) seen
