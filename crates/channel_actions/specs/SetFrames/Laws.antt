-- The sets of pairs that the channel keeps in order, once a pair is put in or taken out: they have exactly that pair more, or less.
-- Example: the queue is (1, 3) and (2, 4). Attempt 3 of call 1 is placed, and leaves (2, 4); attempt 5 of call 1 is made, and gives (1, 5) and (2, 4).
use Rattle.std.specs.BTreeSet.{insert_key}
use Rattle.std.specs.Prelude.{Bool, List, not, ℕ, ◌&&◌, ◌||◌, ◌≡◌}
use Rattle.std.specs.Set.{remove_key}
use Rattle.channel_actions.specs.Sets.{PairsAreExactly}
use Rattle.picker_gate.specs.Pairs.{is_same, pair_cmp}

abbrev pub PairsComeIn : Type 0
PairsComeIn =
    (pairs : List (ℕ × ℕ)) (test : ℕ → ℕ → Bool) (p : ℕ × ℕ) → PairsAreExactly pairs test
    → PairsAreExactly (insert_key pair_cmp pairs p) (λ a b. is_same (a, b) p || test a b)

abbrev pub PairsGo : Type 0
PairsGo =
    (pairs : List (ℕ × ℕ)) (test : ℕ → ℕ → Bool) (p : ℕ × ℕ) → PairsAreExactly pairs test
    → PairsAreExactly (remove_key (is_same p) pairs) (λ a b. test a b && not (is_same p (a, b)))

-- what passes another test that holds of the same pairs
abbrev pub TestsAreSame : Type 0
TestsAreSame =
    (pairs : List (ℕ × ℕ)) (test other : ℕ → ℕ → Bool) → PairsAreExactly pairs test → ((a b : ℕ) → test a b ≡ other a b) → PairsAreExactly pairs other
