use Rattle.channel_actions.proofs.Drains.Writes.Runs as runs
use Rattle.channel_actions.proofs.drain_writes.drains_are_actions.Goals as goal

pub returns : goal.returns
returns c = runs.drains_are_actions
