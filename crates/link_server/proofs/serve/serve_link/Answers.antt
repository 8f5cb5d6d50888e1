use Rattle.std.proofs.Common.{None, ap}
use Rattle.link_server.specs.Serves.{over_of}
use Rattle.link_server.proofs.ServeLaws.{cause_next, goes_on, in_then, out_as, out_then}
use Rattle.link_server.proofs.serve.serve_link.Goals as goal

pub loop-preserved : goal.loop-preserved
loop-preserved g c = record {
  into = in_then _ _ _ _ _ _ _ c.loop.invariant.into c.serve_turn.ensures.into;
  out = out_then _ _ _ _ _ _ _ _ c.loop.invariant.out (out_as _ _ _ _ _ (over_of c.serve_turn.result) _ (goes_on c.serve_turn.result c.in-More.is) c.serve_turn.ensures.out);
  cause = cause_next (over_of c.serve_turn.result) None _ _ _ (g.I.LinkIn.left c.serve_turn.new.input) (goes_on c.serve_turn.result c.in-More.is) c.loop.invariant.cause c.serve_turn.ensures.cause;
}

pub returns-in-Over-clause-into : goal.returns-in-Over-clause-into
returns-in-Over-clause-into g c = in_then _ _ _ _ _ _ _ c.loop.invariant.into c.serve_turn.ensures.into

pub returns-in-Over-clause-out : goal.returns-in-Over-clause-out
returns-in-Over-clause-out g c = out_then _ _ _ _ _ _ _ _ c.loop.invariant.out (out_as _ _ _ _ _ (over_of c.serve_turn.result) _ (ap over_of c.in-Over.is) c.serve_turn.ensures.out)
