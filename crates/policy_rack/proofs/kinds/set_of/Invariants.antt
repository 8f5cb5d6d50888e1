use Rattle.std.proofs.Common.{◌≡◌, map, drop}
use Rattle.policy_rack.specs.Kinds.{kinds_of}
use Rattle.policy_rack.proofs.KindLaws.{kinds_with}
use Rattle.policy_rack.proofs.kinds.set_of.Given as goal

-- with the kinds of the rest these are all
abbrev pub invariant-loop-policy : goal.invariant-loop-policy
invariant-loop-policy g l = kinds_with l.kinds (map g.P.Balancer.seen (drop l.policy-index l.policies)) ≡ kinds_of (map g.P.Balancer.seen l.fn.policies)
