use Rattle.channel_actions.proofs.Calls.Few.Walk.{calls_are_few}
use Rattle.channel_actions.proofs.few_calls.calls_are_few.Goals as goal

pub returns : goal.returns
returns c = calls_are_few
