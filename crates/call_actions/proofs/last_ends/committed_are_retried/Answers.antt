use Rattle.call_actions.proofs.LastEnds.TakeOver.{committed_are_retried}
use Rattle.call_actions.proofs.last_ends.committed_are_retried.Goals as goal

pub returns : goal.returns
returns c = committed_are_retried
