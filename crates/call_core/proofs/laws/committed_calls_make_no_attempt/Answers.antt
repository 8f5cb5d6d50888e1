use Rattle.call_core.proofs.Final.{committed_due}
use Rattle.call_core.proofs.laws.committed_calls_make_no_attempt.Goals as goal

pub returns : goal.returns
returns c = committed_due
