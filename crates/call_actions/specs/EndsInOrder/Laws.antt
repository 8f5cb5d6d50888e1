-- A call ends and its attempts are cut off (`take_actions`): what the session keeps in order of it (`call_actions`) is so still after the last of them.
-- Example: call 1 has the attempts 1 and 2 outstanding, and is cancelled. It has the marks Closed, Ended 1 and Ended 2 more, which name attempts of it that ended;
-- two attempts were made, and no further one is due.
use Rattle.std.specs.Prelude.{None, is_some, true, ◌≡◌}
use Rattle.call_actions.specs.Order.{IsInOrder}
use Rattle.call_core.specs.Steps as steps
use Rattle.call_core.specs.Steps.{Stepped}
use Rattle.grpc_base.specs.declared.event.EndCause.{EndCause}
use Rattle.session_actions.specs.Entries.{now}
use Rattle.session_actions.specs.declared.call.Call.{Call}
use Rattle.session_actions.specs.declared.seen.Seen.{Seen}
use Rattle.call_actions.specs.TakeActions.Laws.{IsEnded}
use Rattle.call_actions.specs.TakeActions.Serves.{Serves}

pub record EndsInOrder (s : Seen) (c : Call) (why : EndCause) (x : Stepped) : Type 0 where
  pub ended : IsEnded s c why x
  pub order : IsInOrder ended.seen ended.agrees.call

abbrev pub EndsStayInOrder : Type 0
EndsStayInOrder =
    (s : Seen) (c : Call) (x : Stepped) (why : EndCause) → is_some s.current ≡ true → Serves s c x → c.end ≡ None → IsInOrder s c
    → EndsInOrder s c why (steps.closed_by why (now s) x)
