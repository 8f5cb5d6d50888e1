use Rattle.std.proofs.Common.{subst}
use Rattle.link_server.specs.Serves.{IsSent}
use Rattle.link_server.proofs.ServeLaws.{out_one, written_cause}
use Rattle.link_server.proofs.serve.give.Goals as goal

pub returns-in-Ok-clause-out : goal.returns-in-Ok-clause-out
returns-in-Ok-clause-out g c = out_one _ _ _ _ _ _ c.write_out.result c.in-Ok.ensures.drained (subst (IsSent c.write_out.result _ _) c.as_slice.ensures c.write_out.ensures.sent)

pub returns-in-Ok-clause-cause : goal.returns-in-Ok-clause-cause
returns-in-Ok-clause-cause g c = λ reads left. written_cause c.write_out.result _ _ _ _ _ _ _ left c.drain.ensures.breaks.0 c.drain.ensures.breaks.1 c.write_out.ensures.cause
