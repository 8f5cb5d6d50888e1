use Rattle.session_takes.proofs.Free.{free_calls_attempt}
use Rattle.session_takes.proofs.laws.committed_calls_rest.Goals as goal

pub returns : goal.returns
returns c = free_calls_attempt
