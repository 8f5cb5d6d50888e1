use Rattle.std.proofs.Common.{map}
use Rattle.resolver_core.specs.AnyTargets.{authority_of}
use Rattle.channel_top.proofs.RunLaws.{has_run}
use Rattle.channel_top.proofs.session.run_session.Goals as goal

pub returns : goal.returns
returns g c =
    has_run c.in_ok-ran.ran c.args.alloc (authority_of c.args.target) c.in_ok-authority.authority (map g.P.Balancer.seen c.args.policies.items) c.args.events.items
    c.in_ok-core.core c.run_events.new.core c.in_ok-authority.ensures.text c.requires.ready c.in_ok-core.ensures c.in_ok-ran.ensures
