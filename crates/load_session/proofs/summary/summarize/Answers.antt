use Rattle.std.proofs.Common.{map}
use Rattle.load_session.proofs.Sessions.{gets_full, sums_as, sums_up}
use Rattle.load_session.proofs.Ran.{exit_if, exit_memory}
use Rattle.load_session.proofs.summary.summarize.Goals as goal

pub new_channel-requires : goal.new_channel-requires
new_channel-requires g c = c.requires

pub returns-in_err-core-clause-ok : goal.returns-in_err-core-clause-ok
returns-in_err-core-clause-ok g c = exit_if c.from_residual.result _ _ c.from_residual.ensures.1

pub returns-in_err-core-clause-full : goal.returns-in_err-core-clause-full
returns-in_err-core-clause-full g c = exit_memory c.from_residual.result c.from_residual.ensures.1

pub returns-clause-ok : goal.returns-clause-ok
returns-clause-ok g c =
    sums_as c.sum_up.result (λ s sums. sums_up c.args.load (map g.P.Balancer.seen c.args.policies.items) c.args.alloc c.in_ok-core.core s c.requires c.in_ok-core.ensures sums) c.sum_up.ensures.ok

pub returns-clause-full : goal.returns-clause-full
returns-clause-full g c = λ same. gets_full c.args.load (map g.P.Balancer.seen c.args.policies.items) c.args.alloc c.in_ok-core.core c.in_ok-core.ensures (c.sum_up.ensures.full same)
