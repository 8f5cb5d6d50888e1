use Rattle.std.proofs.Common.{◌≤◌, length, arith}
use Rattle.lb_policy.specs.Steps.{emptied}
use Rattle.policy_rack.proofs.PlaceLaws.{wrote, past}
use Rattle.policy_rack.proofs.places.reset_at.Goals as goal

pub returns-then-place-len : goal.returns-then-place-len
returns-then-place-len g c =
    wrote g.P.Balancer.seen emptied c.args.policies.now.items c.args.place c.index_mut-policy.result.now c.reset.new.self c.index_mut-policy.ensures.value c.reset.ensures

pub returns-else-place-len : goal.returns-else-place-len
returns-else-place-len g c =
    let out : length c.args.policies.now.items ≤ c.args.place = omega (arith, c.if-place-len.false, c.len.ensures) in
    past g.P.Balancer.seen emptied c.args.policies.now.items c.args.place out
