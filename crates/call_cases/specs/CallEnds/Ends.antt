-- A call ends, for whatever cause, in the channel and in the session, from the point at which its end is next to the one at which nothing follows from it any
-- more. In the session: CallEnds, then AttemptEnds of each outstanding attempt of it, then StreamReset by link and stream. The channel does it at once.
-- Example: call 1, with attempts on stream 3 and stream 1 of link 1, is cancelled. CallEnds 1; AttemptEnds of both; StreamReset of stream 1, and of stream 3.
use Rattle.std.specs.Prelude.{Bool, List, None, Some, [], false, filter, is_some, length, map, true, ◌∷◌, ◌≡◌, ℕ}
use Rattle.channel_actions.specs.Agrees.{Agrees}
use Rattle.channel_actions.specs.Calls.{SeesCalls}
use Rattle.channel_actions.specs.Clock.{SeesClock}
use Rattle.channel_actions.specs.Columns.{SeesColumns}
use Rattle.channel_actions.specs.Configs.{SeesBuckets, SeesConfigs}
use Rattle.channel_actions.specs.Links.{SeesLinks}
use Rattle.channel_actions.specs.Sets.{PairsAreExactly, SeesSets, is_awaiting_config, is_in_deadlines, is_in_dues, is_in_fail_fast}
use Rattle.channel_core.specs.States.{StateSeen}
use Rattle.channel_core.specs.Steps.{closed}
use Rattle.channel_core.specs.declared.state.links.LinkSlot.{LinkSlot}
use Rattle.grpc_base.specs.declared.event.EndCause.{EndCause}
use Rattle.call_cases.specs.EndsFollow.Cuts.{AttemptsAreCutOff, NoStreamIsToReset}
use Rattle.call_cases.specs.EndsFollow.Laws.{IsSameRest, is_late, is_out_of}
use Rattle.channel_actions.specs.KeptSessions.Kept.{IsKept}
use Rattle.call_cases.specs.LinkEnds.Laws.{StreamsAreResetToo, with_cuts}
use Rattle.net_actions.specs.Runs.{IsOfCalls}
use Rattle.net_actions.specs.Sees.{Sees}
use Rattle.call_cases.specs.OtherCalls.Others.{GoesApart}
use Rattle.session_actions.specs.Actions.{following}
use Rattle.session_actions.specs.CallEnds.{call_ended}
use Rattle.session_actions.specs.Laws.{posted_in}
use Rattle.session_actions.specs.Links.{is_retiring}
use Rattle.session_actions.specs.Sessions.{Does}
use Rattle.session_actions.specs.Words.{numbered}
use Rattle.session_actions.specs.declared.action.Action.{Action}
use Rattle.session_actions.specs.declared.action.Action.TheVariants as action
use Rattle.session_actions.specs.declared.attempt.Attempt.{Attempt}
use Rattle.session_actions.specs.declared.call.Call.{Call}
use Rattle.session_actions.specs.declared.entry.OpenEntry.{OpenEntry}
use Rattle.session_actions.specs.declared.link.Link.{Link}
use Rattle.session_actions.specs.declared.seen.Seen.{Seen}
use Rattle.session_order.specs.Quiescent.{IsStill}
use Rattle.session_order.specs.Lines.{is_line}
use Rattle.session_order.specs.declared.line.Line.{Line}
use Rattle.session_order.specs.declared.line.Line.TheVariants as line

-- the end of the call of a number is next; and once it has ended, nothing follows at once but that its attempts are cut off, and what these lines give
pub record EndsNext (waits : Line → Bool) (number : ℕ) (why : EndCause) (x : StateSeen) (o : OpenEntry) (s : Seen) : Type 0 where
  pub late : (l : Line) → waits l ≡ true → is_late l ≡ true
  pub current : s.current ≡ Some o
  pub agrees : Agrees x s
  pub unreset : NoStreamIsToReset s
  pub call : Call
  pub there : numbered s.calls number ≡ Some call
  pub going : call.end ≡ None
  pub next : following s ≡ Some (action.CallEnds number why)
  pub uncut : IsStill line.Cut o s
  pub unfollowed : IsStill line.Transparent o s
  pub still : (l : Line) → is_line l line.Cut ≡ false → waits l ≡ false → IsStill l o (call_ended number why s)

-- so it is, too, where the links of the channel are ahead of the session by what the end of the call is to bring. All else agrees, and the links do once the attempts
-- of the call are cut off and their streams are reset. (A message that is too long comes: the link of the channel resets its stream at once, and the session does so
-- once the call has ended; RFC 9113, section 6.4.)
-- Example: a too long message comes for attempt 1, on stream 1 of link 1. Link 1 of the channel has RST_STREAM on stream 1 queued, and CallEnds 1 is next.
pub record HasNotedLink (x : StateSeen) (s : Seen) (l : Link) (number : ℕ) : Type 0 where
  pub slot : LinkSlot
  pub there : numbered x.links number ≡ Some slot
  pub over : is_some l.over ≡ slot.dead
  pub retiring : is_retiring l ≡ slot.retiring

pub record LinksNoted (x : StateSeen) (s : Seen) : Type 0 where
  pub count : length s.links ≡ length x.links
  pub each : (number : ℕ) (l : Link) → numbered s.links number ≡ Some l → HasNotedLink x s l number

pub record AgreesToEnd (x : StateSeen) (s : Seen) : Type 0 where
  pub clock : SeesClock x s
  pub columns : SeesColumns x.book.ledger s
  pub configs : SeesConfigs x s
  pub buckets : SeesBuckets x.book.buckets s
  pub calls : SeesCalls x s
  pub links : LinksNoted x s
  pub net : Sees s x.net
  pub orderly : IsOfCalls x.net
  pub sets : SeesSets x s
  pub kept : IsKept s

pub record IsToEnd (waits : Line → Bool) (number : ℕ) (why : EndCause) (x : StateSeen) (o : OpenEntry) (s : Seen) : Type 0 where
  pub late : (l : Line) → waits l ≡ true → is_late l ≡ true
  pub current : s.current ≡ Some o
  pub agrees : AgreesToEnd x s
  pub call : Call
  pub there : numbered s.calls number ≡ Some call
  pub going : call.end ≡ None
  pub next : following s ≡ Some (action.CallEnds number why)
  pub uncut : IsStill line.Cut o s
  pub unfollowed : IsStill line.Transparent o s
  pub still : (l : Line) → is_line l line.Cut ≡ false → waits l ≡ false → IsStill l o (call_ended number why s)
  pub reset : (t : Seen) (cuts : List Attempt) → cuts ≡ filter (is_out_of number) s.attempts → AttemptsAreCutOff cuts (call_ended number why s) t → StreamsAreResetToo (with_cuts cuts x) t

-- what is so of all but the books, once nothing follows from it any more: each of the actions was next. All attempts of the call that were outstanding were cut
-- off; the links, as the channel then has them, agree; and so does the net
pub record EndsOn (waits : Line → Bool) (number : ℕ) (why : EndCause) (x : StateSeen) (o : OpenEntry) (s : Seen) : Type 0 where
  pub cuts : List Attempt
  pub all : cuts ≡ filter (is_out_of number) s.attempts
  pub actions : List Action
  pub seen : Seen
  pub does : Does (action.CallEnds number why ∷ actions) s seen
  pub posts : posted_in actions ≡ []
  pub current : seen.current ≡ Some o
  pub still : (l : Line) → waits l ≡ false → IsStill l o seen
  pub rest : IsSameRest s seen
  pub kept : IsKept seen
  pub unreset : NoStreamIsToReset seen
  pub links : SeesLinks (with_cuts cuts x) seen
  pub net : Sees seen x.net

-- the moments for which calls wait, and the calls without a config
pub record TimersAgree (y : StateSeen) (s : Seen) : Type 0 where
  pub dues : PairsAreExactly y.dues (is_in_dues s)
  pub deadlines : PairsAreExactly y.deadlines (is_in_deadlines s)
  pub awaiting_config : PairsAreExactly y.awaiting_config (is_awaiting_config s)
  pub fail_fast : PairsAreExactly y.fail_fast (is_in_fail_fast s)

-- what agrees then: all but the columns of the ledger, the slots of calls, and the sets of rows; and what happened was of this call alone, so that all that is of another one
-- is as before (`other_calls`)
pub record AgreesApart (y : StateSeen) (s : Seen) : Type 0 where
  pub clock : SeesClock y s
  pub configs : SeesConfigs y s
  pub buckets : SeesBuckets y.book.buckets s
  pub links : SeesLinks y s
  pub net : Sees s y.net
  pub orderly : IsOfCalls y.net
  pub timers : TimersAgree y s
  pub resets : y.resets ≡ []
  pub kept : IsKept s

pub record EndsApart (waits : Line → Bool) (number : ℕ) (why : EndCause) (x : StateSeen) (o : OpenEntry) (s : Seen) : Type 0 where
  pub on : EndsOn waits number why x o s
  pub apart : GoesApart number s on.seen
  pub agrees : AgreesApart (closed why number x) on.seen

-- of a link all but what it owes
abbrev pub unowed : Link → Link
unowed l = record l { owed = [] }

-- the session after it: in the same entry, at the same stage, with nothing that follows at once but what these lines give
pub record HasEnded (waits : Line → Bool) (number : ℕ) (why : EndCause) (x : StateSeen) (o : OpenEntry) (s : Seen) : Type 0 where
  pub actions : List Action
  pub seen : Seen
  pub does : Does (action.CallEnds number why ∷ actions) s seen
  pub posts : posted_in actions ≡ []
  pub entries : seen.entries ≡ s.entries
  pub setup : seen.setup ≡ s.setup
  pub current : seen.current ≡ Some o
  pub still : (l : Line) → waits l ≡ false → IsStill l o seen
  pub unreset : NoStreamIsToReset seen
  pub links : map unowed seen.links ≡ map unowed s.links
  pub agrees : Agrees (closed why number x) seen
