use Rattle.end_cases.proofs.AttemptEnds.Unowed.{none_is_owed}
use Rattle.end_cases.proofs.AttemptEnds.Whole.{calls_go_on_after_ends}
use Rattle.end_cases.proofs.attempt_ends.calls_go_on_after_ends.Goals as goal

pub returns-clause-goes : goal.returns-clause-goes
returns-clause-goes c = calls_go_on_after_ends

pub returns-clause-unowed : goal.returns-clause-unowed
returns-clause-unowed c = none_is_owed
