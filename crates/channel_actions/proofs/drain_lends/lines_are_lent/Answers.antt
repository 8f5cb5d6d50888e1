use Rattle.channel_actions.proofs.Drains.Lends.Lends as lends
use Rattle.channel_actions.proofs.drain_lends.lines_are_lent.Goals as goal

pub returns : goal.returns
returns c = lends.lines_are_lent
