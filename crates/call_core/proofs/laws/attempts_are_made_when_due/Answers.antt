use Rattle.call_core.proofs.Making.{made_cases}
use Rattle.call_core.proofs.laws.attempts_are_made_when_due.Goals as goal

pub returns : goal.returns
returns c = made_cases
