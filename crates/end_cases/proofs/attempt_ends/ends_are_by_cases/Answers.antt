use Rattle.end_cases.proofs.EndCases.Whole.{ends_by_cases, ends_by_cuts}
use Rattle.end_cases.proofs.attempt_ends.ends_are_by_cases.Goals as goal

pub returns-clause-cases : goal.returns-clause-cases
returns-clause-cases c = ends_by_cases

pub returns-clause-cuts : goal.returns-clause-cuts
returns-clause-cuts c = ends_by_cuts
