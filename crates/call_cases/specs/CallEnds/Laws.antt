-- Calls that end: one, for whatever cause; and the cases of events that stand on it.
-- Example: Cancel of call 1, which is open: EventAnswered Done, then call 1 ends. Cancel of it again is refused with CallEnded.
use Rattle.std.specs.Prelude.{Bool, None, Some, is_some, true, ℕ, ◌≡◌}
use Rattle.call_cases.specs.CallEnds.Ends.{EndsApart, EndsNext, EndsOn, HasEnded, IsToEnd}
use Rattle.channel_actions.specs.Stages.{EventsAnswered}
use Rattle.channel_core.specs.Applying as channel
use Rattle.channel_core.specs.States.{StateSeen}
use Rattle.grpc_base.specs.declared.event.EndCause.{EndCause}
use Rattle.grpc_base.specs.declared.event.Event.{Event}
use Rattle.grpc_base.specs.declared.event.Event.TheVariants as event
use Rattle.call_cases.specs.EndsFollow.Cuts.{NoStreamIsToReset}
use Rattle.session_actions.specs.Words.{numbered}
use Rattle.session_actions.specs.declared.call.Call.{Call}
use Rattle.session_actions.specs.declared.entry.OpenEntry.{OpenEntry}
use Rattle.session_actions.specs.declared.seen.Seen.{Seen}
use Rattle.session_order.specs.declared.line.Line.{Line}

-- one call ends: the session gets to where nothing follows from it any more, and all but the books agrees there
abbrev pub EndsGoOn : Type 0
EndsGoOn =
    (waits : Line → Bool) (number : ℕ) (why : EndCause) (x : StateSeen) (o : OpenEntry) (s : Seen) → EndsNext waits number why x o s → EndsOn waits number why x o s

-- and the channel, which does it at once, agrees with it in all but the calls, their columns of the ledger and their sets; all that is of another call is as before
abbrev pub EndsAgree : Type 0
EndsAgree =
    (waits : Line → Bool) (number : ℕ) (why : EndCause) (x : StateSeen) (o : OpenEntry) (s : Seen) → EndsNext waits number why x o s → EndsApart waits number why x o s

-- one call ends, and channel and session agree again
abbrev pub OneCallEnds : Type 0
OneCallEnds =
    (waits : Line → Bool) (number : ℕ) (why : EndCause) (x : StateSeen) (o : OpenEntry) (s : Seen) → EndsNext waits number why x o s → HasEnded waits number why x o s

-- so it is where the links of the channel are ahead of it by the resets that it brings
abbrev pub OneCallEndsAhead : Type 0
OneCallEndsAhead =
    (waits : Line → Bool) (number : ℕ) (why : EndCause) (x : StateSeen) (o : OpenEntry) (s : Seen) → IsToEnd waits number why x o s → HasEnded waits number why x o s

-- Cancel of a call that is there
pub record IsCancelled (e : Event) (x : StateSeen) (s : Seen) : Type 0 where
  pub number : ℕ
  pub event_is : e ≡ event.Cancel number
  pub kept : channel.refusal_of e x ≡ None
  pub call : Call
  pub there : numbered s.calls number ≡ Some call

-- which has ended: it is refused
pub record IsLateCancel (e : Event) (x : StateSeen) (s : Seen) : Type 0 where
  pub cancelled : IsCancelled e x s
  pub ended : is_some cancelled.call.end ≡ true

-- which is open: it ends
pub record IsOpenCancel (e : Event) (x : StateSeen) (s : Seen) : Type 0 where
  pub cancelled : IsCancelled e x s
  pub going : cancelled.call.end ≡ None
  pub unreset : NoStreamIsToReset s

abbrev pub LateCancels : Type 0
LateCancels = EventsAnswered IsLateCancel

abbrev pub OpenCancels : Type 0
OpenCancels = EventsAnswered IsOpenCancel

-- it stands on the end of one call
abbrev pub CancelsStand : Type 0
CancelsStand = OneCallEnds → OpenCancels
