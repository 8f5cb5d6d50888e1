-- Runs of numbers, and what stands for each of them.
use Rattle.std.proofs.Common.{◌≡◌, ℕ, zero, suc, ◌+◌, List, [], ◌∷◌, ◌++◌, map, refl, sym, ap, ◌∙◌, append_assoc, arith}
use Rattle.std.proofs.lemmas.Grind.{flat_map-append}
use Rattle.std.proofs.lemmas.List.{append-nil}
use Rattle.std.proofs.lemmas.List.FromFn.{map-range_with_len_more}
use Rattle.std.specs.List.{flat_map, range_with_len}

-- one number more
pub range_more : (a n j : ℕ) → a + n ≡ j → range_with_len a (n + 1) ≡ range_with_len a n ++ j ∷ []
range_more a zero j e =
    let same : a ≡ j = omega (arith, e) in
    ap (λ (k : ℕ). k ∷ []) same
range_more a (suc n) j e =
    let count : suc n + 1 ≡ suc (n + 1) = omega arith in
    let place : a + 1 + n ≡ j = omega (arith, e) in
    ap (range_with_len a) count ∙ ap (λ (ks : List ℕ). a ∷ ks) (range_more (a + 1) n j place)

-- two runs of which the second goes on where the first ends
pub range_join : (a n m b c : ℕ) → a + n ≡ b → n + m ≡ c → range_with_len a n ++ range_with_len b m ≡ range_with_len a c
range_join a zero m b c e f =
    let start : b ≡ a = omega (arith, e) in
    let count : m ≡ c = omega (arith, f) in
    ap (λ k. range_with_len k m) start ∙ ap (range_with_len a) count
range_join a (suc n) m b c e f =
    let start : a + 1 + n ≡ b = omega (arith, e) in
    let count : suc (n + m) ≡ c = omega (arith, f) in
    ap (λ (ks : List ℕ). a ∷ ks) (range_join (a + 1) n m b (n + m) start refl) ∙ ap (range_with_len a) count

flat_map_range : {X : Type 0} (f : ℕ → List X) (a n j : ℕ) → a + n ≡ j → flat_map f (range_with_len a (n + 1)) ≡ flat_map f (range_with_len a n) ++ f j
flat_map_range f a n j e =
    ap (flat_map f) (range_more a n j e)
    ∙ flat_map-append f (range_with_len a n) (j ∷ [])
    ∙ ap (λ xs. flat_map f (range_with_len a n) ++ xs) (append-nil (f j))

-- what stands for one number more goes after what stood there
pub run_more : {X : Type 0} (f : ℕ → List X) (a n j : ℕ) (old now new : List X) → a + n ≡ j → now ≡ old ++ flat_map f (range_with_len a n) → new ≡ now ++ f j → new ≡ old ++ flat_map f (range_with_len a (n + 1))
run_more f a n j old now new e kept added =
    added
    ∙ ap (λ xs. xs ++ f j) kept
    ∙ append_assoc old (flat_map f (range_with_len a n)) (f j)
    ∙ ap (λ xs. old ++ xs) (sym (flat_map_range f a n j e))

pub each_more : {X : Type 0} (f : ℕ → X) (a n j : ℕ) (old now new : List X) → a + n ≡ j → now ≡ old ++ map f (range_with_len a n) → new ≡ now ++ f j ∷ [] → new ≡ old ++ map f (range_with_len a (n + 1))
each_more f a n j old now new e kept added =
    added
    ∙ ap (λ xs. xs ++ f j ∷ []) kept
    ∙ append_assoc old (map f (range_with_len a n)) (f j ∷ [])
    ∙ ap (λ xs. old ++ xs) (sym (map-range_with_len_more f a n j e))
