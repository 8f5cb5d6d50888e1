use Rattle.lb_policy.proofs.NoteLaws.{noted-again}
use Rattle.lb_policy.proofs.TableLaws.{picks-follow, wishes-in, goes-round}
use Rattle.lb_policy.proofs.laws.laws_of_the_table.Goals as goal

pub returns-clause-picks : goal.returns-clause-picks
returns-clause-picks c = picks-follow

pub returns-clause-wishes : goal.returns-clause-wishes
returns-clause-wishes c = wishes-in

pub returns-clause-round : goal.returns-clause-round
returns-clause-round c = goes-round

pub returns-clause-noting : goal.returns-clause-noting
returns-clause-noting c = noted-again
