use Rattle.std.proofs.Common.{◌≡◌, ◌+◌, take}
use Rattle.grpc_base.specs.Metadata.{meta_limit, meta_size}
use Rattle.grpc_base.proofs.meta_rule.room_after_all.Given as goal

-- the pairs so far and what is left come to the limit
abbrev pub invariant-loop-pair : goal.invariant-loop-pair
invariant-loop-pair l = l.room + meta_size (take l.pair-index l.pairs) ≡ meta_limit
