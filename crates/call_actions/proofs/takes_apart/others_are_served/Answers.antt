use Rattle.call_actions.proofs.TakesApart.Served.{deadlines_stay, others_are_due, others_are_served, served_together}
use Rattle.call_actions.proofs.takes_apart.others_are_served.Goals as goal

pub returns-clause-served : goal.returns-clause-served
returns-clause-served c = others_are_served

pub returns-clause-due : goal.returns-clause-due
returns-clause-due c = others_are_due

pub returns-clause-deadline : goal.returns-clause-deadline
returns-clause-deadline c = deadlines_stay

pub returns-clause-together : goal.returns-clause-together
returns-clause-together c = served_together
