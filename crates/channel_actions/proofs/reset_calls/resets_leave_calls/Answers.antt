use Rattle.channel_actions.proofs.Calls.Reset.Leaves.{resets_leave_calls}
use Rattle.channel_actions.proofs.reset_calls.resets_leave_calls.Goals as goal

pub returns : goal.returns
returns c = resets_leave_calls
