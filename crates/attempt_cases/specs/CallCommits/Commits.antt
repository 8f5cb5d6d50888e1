-- A call is committed to an attempt, in the channel and in the session, from the point at which its commitment is next to the one at which nothing follows from it
-- any more. In the session: CallCommitted, then AttemptEnds of each other outstanding attempt of it, then StreamReset by link and stream. The channel does it at
-- once.
-- Example: call 1 has the attempts 1, 2 and 3 outstanding, on the streams 1, 3 and 5, and the head of 2 comes. CallCommitted 2; AttemptEnds 1 and 3; StreamReset
-- of the streams 1 and 5.
use Rattle.std.specs.Prelude.{Bool, List, Some, [], false, map, true, ◌++◌, ◌∷◌, ◌≡◌, ℕ}
use Rattle.call_actions.specs.TakeActions.Cuts.{CanCommit}
use Rattle.call_core.specs.Laws as call_laws
use Rattle.call_core.specs.Parts.{committed_buffer}
use Rattle.call_core.specs.Steps as steps
use Rattle.call_core.specs.Steps.{Stepped}
use Rattle.call_core.specs.declared.inbox.Inbox.{Inbox}
use Rattle.channel_actions.specs.Agrees.{Agrees}
use Rattle.call_cases.specs.CallEnds.Ends.{unowed}
use Rattle.call_cases.specs.EndsFollow.Cuts.{NoStreamIsToReset}
use Rattle.call_cases.specs.EndsFollow.Laws.{is_late}
use Rattle.channel_core.specs.Books.{slot_at}
use Rattle.channel_core.specs.States.{StateSeen}
use Rattle.channel_core.specs.Steps.{call_asked, sealed}
use Rattle.channel_core.specs.declared.state.slots.CallSlot.{CallSlot}
use Rattle.session_actions.specs.Actions.{following}
use Rattle.session_actions.specs.Commitments.{call_committed}
use Rattle.session_actions.specs.Deliveries.{response_items}
use Rattle.session_actions.specs.Laws.{posted_in}
use Rattle.session_actions.specs.Responses.{response}
use Rattle.session_actions.specs.Sessions.{Does}
use Rattle.session_actions.specs.Words.{numbered}
use Rattle.session_actions.specs.declared.action.Action.{Action}
use Rattle.session_actions.specs.declared.action.Action.TheVariants as action
use Rattle.session_actions.specs.declared.action.CommitCause.{CommitCause}
use Rattle.session_actions.specs.declared.attempt.Attempt.{Attempt}
use Rattle.session_actions.specs.declared.call.Call.{Call}
use Rattle.session_actions.specs.declared.entry.OpenEntry.{OpenEntry}
use Rattle.session_actions.specs.declared.seen.Seen.{Seen}
use Rattle.session_order.specs.Quiescent.{IsStill}
use Rattle.session_order.specs.Lines.{is_line}
use Rattle.session_order.specs.declared.line.Line.{Line}
use Rattle.session_order.specs.declared.line.Line.TheVariants as line

-- a call is committed to a row, with what came for its application so far
abbrev pub commits_with : ℕ → Inbox → ℕ → Stepped → Stepped
commits_with row inbox moment s = steps.committed row moment (record s { call = record s.call { buffer = committed_buffer row s.call.buffer; inbox = inbox } })

-- the commitment of the call of a number to an attempt is next, and what came of the response to this attempt is known. Once the call is committed, nothing
-- follows at once but that its other attempts are cut off, and what these lines give
pub record CommitsNext (waits : Line → Bool) (number : ℕ) (why : CommitCause) (inbox : Inbox) (x : StateSeen) (o : OpenEntry) (s : Seen) : Type 0 where
  pub late : (l : Line) → waits l ≡ true → is_late l ≡ true
  pub current : s.current ≡ Some o
  pub agrees : Agrees x s
  pub unreset : NoStreamIsToReset s
  pub call : Call
  pub there : numbered s.calls number ≡ Some call
  pub slot : CallSlot
  pub slot_is : slot_at x.book number ≡ Some slot
  pub attempt : Attempt
  pub can : CanCommit s call attempt
  pub taken : inbox.is_end_taken ≡ slot.call.inbox.is_end_taken
  pub items : response_items (response attempt s) ≡ call_laws.head_items inbox.head ++ call_laws.message_items inbox.messages
  pub next : following s ≡ Some (action.CallCommitted attempt.place why)
  pub uncut : IsStill line.Cut o s
  pub unfollowed : IsStill line.Transparent o s
  pub still : (l : Line) → is_line l line.Cut ≡ false → waits l ≡ false → IsStill l o (call_committed attempt.place s)

-- the channel after it
abbrev pub committed_state : ℕ → ℕ → Inbox → StateSeen → StateSeen
committed_state number row inbox x = sealed (call_asked (commits_with row inbox x.book.moment) number x)

-- the session after it: in the same entry, at the same stage, with nothing that follows at once but what these lines give
pub record HasCommitted (waits : Line → Bool) (number place : ℕ) (why : CommitCause) (inbox : Inbox) (x : StateSeen) (o : OpenEntry) (s : Seen) : Type 0 where
  pub actions : List Action
  pub seen : Seen
  pub does : Does (action.CallCommitted place why ∷ actions) s seen
  pub posts : posted_in actions ≡ []
  pub entries : seen.entries ≡ s.entries
  pub setup : seen.setup ≡ s.setup
  pub current : seen.current ≡ Some o
  pub still : (l : Line) → waits l ≡ false → IsStill l o seen
  pub unreset : NoStreamIsToReset seen
  -- of the links nothing else changed than what is queued
  pub links : map unowed seen.links ≡ map unowed s.links
  pub agrees : Agrees (committed_state number place inbox x) seen
