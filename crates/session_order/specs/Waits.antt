-- An entry ends exactly where nothing is due that could be done. How a session is kept is the channel's own. That each thing is done at its moment, and
-- not left for a later entry, is what gRFC A6, "Connection Backoff Protocol", "gRPC Connectivity Semantics and API", "Load Balancing in gRPC" and
-- "gRPC Wait for Ready Semantics" say of it.
-- Example: hedgingDelay is 1 s, and the first attempt of a call was placed at 0 s. An entry of moment 1 s does not end before the second attempt is
-- made, and, where the policy is READY, before it is asked for a pick for it.
use Rattle.std.specs.Prelude.{Bool, Some, false, nat_le, ◌&&◌, ◌||◌, ◌≡◌, ◌↔◌}
use Rattle.session_actions.specs.CallEnds.{lacks_config}
use Rattle.session_actions.specs.Calls.{is_open_call}
use Rattle.session_actions.specs.Configs.{is_to_configure}
use Rattle.session_actions.specs.DueAttempts.{next_due}
use Rattle.session_actions.specs.Entries.{now}
use Rattle.session_actions.specs.Policies.{is_served, may_take_over, pending_policy}
use Rattle.session_actions.specs.Sessions.{IsNext}
use Rattle.session_actions.specs.Subchannels.{is_idle, is_rested, is_too_late, is_wished}
use Rattle.session_actions.specs.Words.{holds}
use Rattle.session_actions.specs.declared.call.Call.{Call}
use Rattle.session_actions.specs.declared.entry.OpenEntry.{OpenEntry}
use Rattle.session_actions.specs.declared.seen.Seen.{Seen}
use Rattle.session_actions.specs.declared.subchannel.Subchannel.{Subchannel}
use Rattle.session_order.specs.Quiescent.{IsQuiescent, NoneIs}
use Rattle.session_actions.specs.declared.action.Action.TheVariants as action
use Rattle.session_actions.specs.declared.entry.Stage.TheVariants as stage

-- a connection that did not stand in time, or a backoff that is over
abbrev pub is_over_time : Seen → Subchannel → Bool
is_over_time s b = is_too_late s b || is_rested s b

-- an IDLE subchannel that a live policy wishes to connect
abbrev pub is_to_connect : Seen → Subchannel → Bool
is_to_connect s b = is_idle b.state && is_wished s b

-- a call that is to get its config, or ends for want of one
abbrev pub is_unsettled : Seen → Call → Bool
is_unsettled s c = is_to_configure s c || lacks_config s c

-- an open call whose next attempt is due by now
abbrev pub is_due : Seen → Call → Bool
is_due s c = is_open_call c && holds (λ t. nat_le t (now s)) (next_due c s)

-- nothing waits that could be done by now
pub record NothingDueWaits (o : OpenEntry) (s : Seen) : Type 0 where
  pub quiescent : IsQuiescent o s
  -- no connection took too long, and no backoff is over ("Connection Backoff Protocol")
  pub clock : NoneIs (is_over_time s) s.subs
  -- no pending policy may take over ("Load Balancing in gRPC")
  pub over : holds (may_take_over s) (pending_policy s) ≡ false
  -- no subchannel is IDLE that a policy wishes ("gRPC Connectivity Semantics and API")
  pub wishes : NoneIs (is_to_connect s) s.subs
  -- no call waits for a config that is there ("Service Config in gRPC")
  pub configs : NoneIs (is_unsettled s) s.calls
  -- no attempt is due and not made (gRFC A6, "Exponential Backoff" and "Hedging Policy")
  pub attempts : NoneIs (is_due s) s.calls
  -- no attempt is queued that the current policy would serve ("gRPC Wait for Ready Semantics")
  pub queue : NoneIs (is_served s) s.attempts

-- an entry ends exactly there, once its event is done with
abbrev pub EndsWhereNothingWaits : Type 0
EndsWhereNothingWaits =
    (o : OpenEntry) (s : Seen) → s.current ≡ Some o
    → IsNext action.EntryCloses s ↔ ((o.stage ≡ stage.Settling) × NothingDueWaits o s)
