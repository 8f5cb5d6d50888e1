use Rattle.client_calls.proofs.ExchangeLaws.{unary_answered, unary_ended}
use Rattle.client_calls.proofs.whole.unary.Goals as goal

pub returns-in-Ok-clause-answered : goal.returns-in-Ok-clause-answered
returns-in-Ok-clause-answered g c = unary_answered _ _ _ _ _ _ c.in-Ok.ensures.exchanged c.unary_of.ensures.ok

pub returns-in-Ok-clause-ended : goal.returns-in-Ok-clause-ended
returns-in-Ok-clause-ended g c = unary_ended _ _ _ _ _ _ c.in-Ok.ensures.exchanged c.unary_of.ensures.err
