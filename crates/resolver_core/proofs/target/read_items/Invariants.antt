use Rattle.std.proofs.Common.{◌≡◌, ◌≤◌, ◌+◌, ℕ, List, [], length, Option, Some, None, false}
use Rattle.std.specs.Option.{option_copied}
use Rattle.grpc_base.specs.Pieces.{pieces, pieces_of_rest}
use Rattle.resolver_core.specs.Targets.{items_of}
use Rattle.resolver_core.proofs.TargetLaws.{listed_from}
use Rattle.resolver_core.proofs.target.read_items.Given as goal

-- the items that are left give the answer
abbrev pub invariant-loop-rest : goal.invariant-loop-rest
invariant-loop-rest l = record {
  room : length l.addresses + l.left ≤ 64;
  rest : listed_from l.addresses l.left l.over (items_of (pieces_of_rest 44 (option_copied l.rest))) ≡ listed_from [] 64 false (items_of (pieces 44 l.fn.text));
}

-- how much of the text is left
abbrev size_of_rest : Option (List ℕ) → ℕ
size_of_rest None = 0
size_of_rest (Some rest) = length rest + 1

abbrev pub decreases-loop-rest : goal.decreases-loop-rest
decreases-loop-rest l = size_of_rest (option_copied l.rest)
