use Rattle.std.proofs.Common.{◌≡◌, map, drop}
use Rattle.policy_rack.specs.Kinds.{has_policy}
use Rattle.policy_rack.proofs.kinds.has_kind.Given as goal

-- none was of this kind before here
abbrev pub invariant-loop-policy : goal.invariant-loop-policy
invariant-loop-policy g l = has_policy l.kind (map g.P.Balancer.seen (drop l.policy-index l.policies)) ≡ has_policy l.kind (map g.P.Balancer.seen l.fn.policies)
