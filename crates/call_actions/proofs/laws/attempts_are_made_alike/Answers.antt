use Rattle.call_actions.proofs.Made.{attempts_are_made, hedges_are_refused, none_is_made}
use Rattle.call_actions.proofs.Placing.{attempts_are_placed}
use Rattle.call_actions.proofs.laws.attempts_are_made_alike.Goals as goal

pub returns-clause-made : goal.returns-clause-made
returns-clause-made c = attempts_are_made

pub returns-clause-none : goal.returns-clause-none
returns-clause-none c = none_is_made

pub returns-clause-refused : goal.returns-clause-refused
returns-clause-refused c = hedges_are_refused

pub returns-clause-placed : goal.returns-clause-placed
returns-clause-placed c = attempts_are_placed
