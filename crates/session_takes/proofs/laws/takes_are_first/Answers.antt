use Rattle.session_takes.proofs.Taken.{only_calls_are_taken, takes_are_first}
use Rattle.session_takes.proofs.laws.takes_are_first.Goals as goal

pub returns-clause-first : goal.returns-clause-first
returns-clause-first c = takes_are_first

pub returns-clause-only : goal.returns-clause-only
returns-clause-only c = only_calls_are_taken
