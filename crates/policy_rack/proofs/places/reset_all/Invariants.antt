use Rattle.std.proofs.Common.{◌≡◌, ◌++◌, map, take, drop}
use Rattle.lb_policy.specs.Steps.{emptied}
use Rattle.policy_rack.proofs.places.reset_all.Given as goal

-- those before are reset, the others are as before
abbrev pub invariant-loop-policy : goal.invariant-loop-policy
invariant-loop-policy g l =
    map g.P.Balancer.seen l.policies ≡ map emptied (take l.policy-index (map g.P.Balancer.seen l.fn.policies)) ++ drop l.policy-index (map g.P.Balancer.seen l.fn.policies)
