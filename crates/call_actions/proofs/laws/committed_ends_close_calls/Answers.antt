use Rattle.call_actions.proofs.Ends.Committed.{committed_ends_close}
use Rattle.call_actions.proofs.laws.committed_ends_close_calls.Goals as goal

pub returns : goal.returns
returns c = committed_ends_close
