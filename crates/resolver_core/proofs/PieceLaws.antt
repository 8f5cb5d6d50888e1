-- A text that is parted has a piece.
use Rattle.std.proofs.Common.{◌≡◌, ℕ, ◌==◌, ◌+◌, List, [], length, ap, arith}
use Rattle.std.specs.List.{count_by}
use Rattle.std.proofs.lemmas.List.Splits.{length-slice_split}
use Rattle.grpc_base.specs.Pieces.{pieces}

pub pieces-some : (separator : ℕ) (text : List ℕ) → pieces separator text ≡ [] → ⊥
pieces-some separator text e =
    let some : length (pieces separator text) ≡ count_by (λ b. b == separator) text + 1 = length-slice_split (λ b. b == separator) text in
    let none : length (pieces separator text) ≡ 0 = ap length e in
    omega arith
