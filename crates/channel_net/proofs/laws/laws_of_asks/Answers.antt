use Rattle.channel_net.proofs.TurnLaws.{asks-reach, answers-are, turns-are-asks}
use Rattle.channel_net.proofs.laws.laws_of_asks.Goals as goal

pub returns-clause-current : goal.returns-clause-current
returns-clause-current c = asks-reach

pub returns-clause-answers : goal.returns-clause-answers
returns-clause-answers c = answers-are

pub returns-clause-turns : goal.returns-clause-turns
returns-clause-turns c = turns-are-asks c.laws_of_runs.ensures.kept
