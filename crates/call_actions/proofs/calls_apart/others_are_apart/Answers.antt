use Rattle.call_actions.proofs.CallsApart.Acts.{apart_joins, others_stay}
use Rattle.call_actions.proofs.CallsApart.Fair.{others_along}
use Rattle.call_actions.proofs.calls_apart.others_are_apart.Goals as goal

pub returns-clause-one : goal.returns-clause-one
returns-clause-one c = others_stay

pub returns-clause-several : goal.returns-clause-several
returns-clause-several c = apart_joins

pub returns-clause-along : goal.returns-clause-along
returns-clause-along c = others_along
