use Rattle.net_actions.proofs.Resolving.{takes_result}
use Rattle.net_actions.proofs.ShuttingDown.{shuts_all}
use Rattle.net_actions.proofs.TakeOverWhole.{takes_over}
use Rattle.net_actions.proofs.laws.policies_come_and_go.Goals as goal

pub returns-clause-result_taken : goal.returns-clause-result_taken
returns-clause-result_taken c = takes_result c.laws_of_generations.ensures.kept

pub returns-clause-over : goal.returns-clause-over
returns-clause-over c = takes_over

pub returns-clause-shut : goal.returns-clause-shut
returns-clause-shut c = shuts_all
