use Rattle.std.proofs.Common.{◌≡◌, ◌<◌, length, map, arith}
use Rattle.std.proofs.lemmas.List.{length-map}
use Rattle.lb_policy.specs.Steps.{emptied}
use Rattle.policy_rack.proofs.PlaceLaws.{changed-more}
use Rattle.policy_rack.proofs.places.reset_all.Goals as goal

pub loop-policy-preserved : goal.loop-policy-preserved
loop-policy-preserved g c =
    let long : length (map g.P.Balancer.seen c.args.policies.now) ≡ length c.args.policies.now = length-map c.args.policies.now g.P.Balancer.seen in
    let within : c.loop-policy.policy-index < length (map g.P.Balancer.seen c.args.policies.now) = omega (arith, c.loop-policy-test.true) in
    changed-more g.P.Balancer.seen emptied c.loop-policy.policies (map g.P.Balancer.seen c.args.policies.now) c.loop-policy.policy-index c.policy-item.result c.reset.new.self c.loop-policy.invariant within c.reset.ensures
