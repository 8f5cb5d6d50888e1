use Rattle.std.proofs.Common.{◌≡◌, map, drop}
use Rattle.std.specs.List.{position_from}
use Rattle.policy_rack.specs.Kinds.{same_kind, first_place}
use Rattle.policy_rack.proofs.kinds.place_of.Given as goal

-- none was of this kind before here
abbrev pub invariant-loop-place : goal.invariant-loop-place
invariant-loop-place g l =
    position_from (λ p. same_kind p.kind l.kind) l.place (map g.P.Balancer.seen (drop l.place l.policies)) ≡ first_place l.kind (map g.P.Balancer.seen l.fn.policies)
