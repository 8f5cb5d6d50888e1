use Rattle.load_session.proofs.Acts.{receives}
use Rattle.load_session.proofs.Ran.{exit_memory, exit_ok, on_ok_as}
use Rattle.load_session.proofs.sides.receive.Goals as goal

pub returns-in_err-octets-clause-ok : goal.returns-in_err-octets-clause-ok
returns-in_err-octets-clause-ok g c = exit_ok _ c.from_residual.result _ c.from_residual.ensures.1

pub returns-in_err-octets-clause-full : goal.returns-in_err-octets-clause-full
returns-in_err-octets-clause-full g c = exit_memory c.from_residual.result c.from_residual.ensures.1

pub returns-clause-ok : goal.returns-clause-ok
returns-clause-ok g c =
    on_ok_as c.arrive.result (receives c.args.moment c.args.link c.args.core.now c.arrive.new.core c.args.server.now c.drain.new.self _ c.in_ok-octets.ensures) c.arrive.ensures.ok

pub returns-clause-full : goal.returns-clause-full
returns-clause-full g c = λ same. record {
  server = c.drain.new.self;
  octets = c.in_ok-octets.octets;
  drains = c.in_ok-octets.ensures;
  some = (c.arrive.ensures.full same).0;
  full = (c.arrive.ensures.full same).1;
}
