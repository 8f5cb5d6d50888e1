use Rattle.lb_policy.specs.Steps.{turned}
use Rattle.policy_rack.proofs.PlaceLaws.{wrote}
use Rattle.policy_rack.proofs.places.pick_at.Goals as goal

pub returns-clause-after : goal.returns-clause-after
returns-clause-after g c =
    wrote g.P.Balancer.seen turned c.args.policies.now.items c.args.place c.index_mut-policy.result.now c.pick.new.self c.index_mut-policy.ensures.value c.pick.ensures.after
