use Rattle.call_cases.proofs.BeginActions.Answered.{begins_answered}
use Rattle.call_cases.proofs.begin_actions.begins_are_answered.Goals as goal

pub returns : goal.returns
returns c =
    begins_answered c.quiescence_is_exact.ensures.quiescent c.calls_stir.ensures c.calls_stay.ensures.all c.sets_stay.ensures c.sets_change.ensures.comes
    c.sets_change.ensures.same
