use Rattle.channel_net.proofs.RunLaws.{generations-kept, kinds-differ}
use Rattle.channel_net.proofs.laws.laws_of_generations.Goals as goal

pub returns-clause-kept : goal.returns-clause-kept
returns-clause-kept c = generations-kept c.laws_of_runs.ensures.kept

pub returns-clause-kinds : goal.returns-clause-kinds
returns-clause-kinds c = kinds-differ c.laws_of_runs.ensures.kinds
