use Rattle.session_order.proofs.SessionLaws.Numbers.{attempts_are_numbered}
use Rattle.session_order.proofs.session_laws.attempts_are_numbered.Goals as goal

pub returns : goal.returns
returns c = attempts_are_numbered
