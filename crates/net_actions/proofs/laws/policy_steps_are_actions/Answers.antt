use Rattle.net_actions.proofs.Asking.{asks_are_answered, states_are_same}
use Rattle.net_actions.proofs.TakingOver.{take_overs_are_same}
use Rattle.net_actions.proofs.laws.policy_steps_are_actions.Goals as goal

pub returns-clause-state : goal.returns-clause-state
returns-clause-state c = states_are_same

pub returns-clause-ask : goal.returns-clause-ask
returns-clause-ask c = asks_are_answered

pub returns-clause-over : goal.returns-clause-over
returns-clause-over c = take_overs_are_same
