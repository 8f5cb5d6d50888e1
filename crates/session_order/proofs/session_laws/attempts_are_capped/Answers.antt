use Rattle.session_order.proofs.SessionLaws.Caps.{attempts_are_capped, attempts_need_configs}
use Rattle.session_order.proofs.session_laws.attempts_are_capped.Goals as goal

pub returns-clause-most : goal.returns-clause-most
returns-clause-most c = attempts_are_capped

pub returns-clause-none : goal.returns-clause-none
returns-clause-none c = attempts_need_configs
