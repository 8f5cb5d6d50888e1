use Rattle.std.proofs.Common.{None, Some, ap, refl}
use Rattle.link_server.specs.Serves.{over_of}
use Rattle.link_server.proofs.ServeLaws.{cause_next, in_nothing, in_then, out_as, out_nothing, out_then}
use Rattle.link_server.proofs.serve.run_rounds.Goals as goal

pub loop-init : goal.loop-init
loop-init g c = record { into = in_nothing _ _ _; out = out_nothing _ _ _; cause = refl }

pub returns-in-Quiet-clause-into : goal.returns-in-Quiet-clause-into
returns-in-Quiet-clause-into g c = in_then _ _ _ _ _ _ _ c.loop.invariant.into c.round.ensures.into

pub returns-in-Quiet-clause-out : goal.returns-in-Quiet-clause-out
returns-in-Quiet-clause-out g c = out_then _ _ _ _ _ _ _ _ c.loop.invariant.out (out_as _ _ _ _ _ (over_of c.round.result) _ (ap over_of c.in-Quiet.is) c.round.ensures.out)

pub returns-in-Quiet-clause-cause : goal.returns-in-Quiet-clause-cause
returns-in-Quiet-clause-cause g c = cause_next (over_of c.round.result) None _ _ _ (g.I.LinkIn.left c.round.new.input) (ap over_of c.in-Quiet.is) c.loop.invariant.cause c.round.ensures.cause

pub returns-in-Over-clause-into : goal.returns-in-Over-clause-into
returns-in-Over-clause-into g c = in_then _ _ _ _ _ _ _ c.loop.invariant.into c.round.ensures.into

pub returns-in-Over-clause-out : goal.returns-in-Over-clause-out
returns-in-Over-clause-out g c = out_then _ _ _ _ _ _ _ _ c.loop.invariant.out (out_as _ _ _ _ _ (over_of c.round.result) _ (ap over_of c.in-Over.is) c.round.ensures.out)

pub returns-in-Over-clause-cause : goal.returns-in-Over-clause-cause
returns-in-Over-clause-cause g c = cause_next (over_of c.round.result) (Some c.in-Over.done) _ _ _ (g.I.LinkIn.left c.round.new.input) (ap over_of c.in-Over.is) c.loop.invariant.cause c.round.ensures.cause

pub loop-preserved : goal.loop-preserved
loop-preserved g c = record {
  into = in_then _ _ _ _ _ _ _ c.loop.invariant.into c.round.ensures.into;
  out = out_then _ _ _ _ _ _ _ _ c.loop.invariant.out (out_as _ _ _ _ _ (over_of c.round.result) _ (ap over_of c.in-More.is) c.round.ensures.out);
  cause = cause_next (over_of c.round.result) None _ _ _ (g.I.LinkIn.left c.round.new.input) (ap over_of c.in-More.is) c.loop.invariant.cause c.round.ensures.cause;
}

pub returns-clause-into : goal.returns-clause-into
returns-clause-into g c = c.loop.invariant.into

pub returns-clause-out : goal.returns-clause-out
returns-clause-out g c = c.loop.invariant.out

pub returns-clause-cause : goal.returns-clause-cause
returns-clause-cause g c = c.loop.invariant.cause
