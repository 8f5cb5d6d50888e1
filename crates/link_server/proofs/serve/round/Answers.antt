use Rattle.std.proofs.Common.{refl}
use Rattle.link_server.specs.Serves.{over_of}
use Rattle.link_server.proofs.ServeLaws.{cause_after, cause_as, in_none, in_then, out_after, out_as, out_none}
use Rattle.link_server.proofs.serve.round.Goals as goal

pub returns-in-None-clause-into : goal.returns-in-None-clause-into
returns-in-None-clause-into g c = in_then _ _ _ _ _ _ _ (in_none _ _ _ _ _ c.give.ensures.given refl) c.take.ensures.into

pub returns-in-None-clause-out : goal.returns-in-None-clause-out
returns-in-None-clause-out g c =
    out_after _ _ _ _ _ _ _ c.give.result (over_of c.take.result) c.in-None.is c.give.ensures.out
    (out_none _ _ _ _ _ (over_of c.take.result) c.take.ensures.drained refl c.take.ensures.written)

pub returns-in-None-clause-cause : goal.returns-in-None-clause-cause
returns-in-None-clause-cause g c =
    cause_after c.give.result (over_of c.take.result) _ _ _ (g.I.LinkIn.left c.args.input.now) _ c.in-None.is
    (c.give.ensures.cause (g.I.LinkIn.faults c.args.input.now) (g.I.LinkIn.left c.args.input.now))
    (c.take.ensures.cause (g.O.LinkOut.faults c.give.new.output))

pub returns-in-Some-clause-into : goal.returns-in-Some-clause-into
returns-in-Some-clause-into g c = in_none _ _ _ _ _ c.give.ensures.given refl

pub returns-in-Some-clause-out : goal.returns-in-Some-clause-out
returns-in-Some-clause-out g c = out_as _ _ _ _ _ c.give.result _ c.in-Some.is c.give.ensures.out

pub returns-in-Some-clause-cause : goal.returns-in-Some-clause-cause
returns-in-Some-clause-cause g c =
    cause_as c.give.result _ _ _ _ c.in-Some.is (c.give.ensures.cause (g.I.LinkIn.faults c.args.input.now) (g.I.LinkIn.left c.args.input.now))
