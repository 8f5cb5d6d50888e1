use Rattle.channel_actions.proofs.Drains.Calls.Streamed as streamed
use Rattle.channel_actions.proofs.drain_calls.feeds_hold.Goals as goal

pub returns : goal.returns
returns c = streamed.feeds_hold
