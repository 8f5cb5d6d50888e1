use Rattle.load_session.proofs.Acts.{does_exchange, does_post, does_takes}
use Rattle.load_session.proofs.Ran.{on_ok_as}
use Rattle.load_session.proofs.Stops.{stops_exchange, stops_post, stops_takes}
use Rattle.load_session.proofs.play.play.Goals as goal

pub returns-in-Post-clause-ok : goal.returns-in-Post-clause-ok
returns-in-Post-clause-ok g c =
    on_ok_as c.post_only.result (does_post c.args.action.moment c.args.action.step c.in-Post.event c.args.core.now c.post_only.new.core c.args.server.now c.in-Post.is) c.post_only.ensures.ok

pub returns-in-Post-clause-full : goal.returns-in-Post-clause-full
returns-in-Post-clause-full g c = λ same.
    stops_post c.args.action.moment c.args.action.step c.in-Post.event (record { channel = c.args.core.now; server = c.args.server.now }) c.in-Post.is (c.post_only.ensures.full same)

pub returns-in-Exchange-clause-ok : goal.returns-in-Exchange-clause-ok
returns-in-Exchange-clause-ok g c =
    on_ok_as c.exchange.result (does_exchange c.args.action.moment c.args.action.step (record { channel = c.args.core.now; server = c.args.server.now }) (record { channel = c.exchange.new.core; server = c.exchange.new.server }) c.in-Exchange.is) c.exchange.ensures.ok

pub returns-in-Exchange-clause-full : goal.returns-in-Exchange-clause-full
returns-in-Exchange-clause-full g c = λ same.
    stops_exchange c.args.action.moment c.args.action.step (record { channel = c.args.core.now; server = c.args.server.now }) c.in-Exchange.is (c.exchange.ensures.full same)

pub returns-in-Takes-clause-ok : goal.returns-in-Takes-clause-ok
returns-in-Takes-clause-ok g c =
    on_ok_as c.take_all.result (does_takes c.args.action.moment c.args.action.step c.in-Takes.call c.args.core.now c.take_all.new.core c.args.server.now c.in-Takes.is) c.take_all.ensures.ok

pub returns-in-Takes-clause-full : goal.returns-in-Takes-clause-full
returns-in-Takes-clause-full g c = λ same.
    stops_takes c.args.action.moment c.args.action.step c.in-Takes.call (record { channel = c.args.core.now; server = c.args.server.now }) c.in-Takes.is (c.take_all.ensures.full same)
