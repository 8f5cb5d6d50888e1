use Rattle.call_actions.proofs.Followed.{refused_are_retried}
use Rattle.call_actions.proofs.laws.refused_attempts_are_retried.Goals as goal

pub returns : goal.returns
returns c = refused_are_retried
