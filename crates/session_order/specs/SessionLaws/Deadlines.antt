-- Deadlines that have come end their calls before the event of the entry is applied (gRPC, "Core concepts": Deadlines/Timeouts).
-- Example: an entry of moment 10 brings the cancel of a call whose deadline is 9. The call ends with DEADLINE_EXCEEDED, and the cancel is refused. A call that
-- begins with a timeout of 0 in this entry ends in the next one: what an event brings about comes after this.
use Rattle.std.specs.List.{list_any}
use Rattle.std.specs.Prelude.{Some, true, ◌≡◌}
use Rattle.session_actions.specs.Actions.{following}
use Rattle.session_actions.specs.CallEnds.{is_past_deadline}
use Rattle.session_actions.specs.Events.{event_action}
use Rattle.session_actions.specs.declared.call.Call.{Call}
use Rattle.session_actions.specs.declared.entry.OpenEntry.{OpenEntry}
use Rattle.session_actions.specs.declared.seen.Seen.{Seen}
use Rattle.session_order.specs.Quiescent.{IsQuiescent, NoneIs}
use Rattle.session_actions.specs.declared.action.Action.TheVariants as action
use Rattle.grpc_base.specs.declared.event.EndCause.TheVariants as ending
use Rattle.session_actions.specs.declared.entry.Stage.TheVariants as stage

-- at its event, and quiescent, an entry applies it where the deadline of no open call has come
abbrev pub EventsFollowDeadlines : Type 0
EventsFollowDeadlines =
    (o : OpenEntry) (s : Seen) → s.current ≡ Some o → o.stage ≡ stage.Event → IsQuiescent o s → NoneIs (is_past_deadline s) s.calls
    → following s ≡ event_action o.event s

-- and else such a call ends
abbrev pub DeadlinesEndCalls : Type 0
DeadlinesEndCalls =
    (o : OpenEntry) (s : Seen) → s.current ≡ Some o → o.stage ≡ stage.Event → IsQuiescent o s → list_any (is_past_deadline s) s.calls ≡ true
    → (c : Call) × (is_past_deadline s c ≡ true) × (following s ≡ Some (action.CallEnds c.number ending.Deadline))
