-- The keys of timers that are due, where the first numbers of all pairs are 0: calls in the order of their numbers.
use Rattle.std.proofs.Common.{◌≡◌, ◌∙◌, ◌<◌, ℕ, ◌==◌, Bool, true, false, ◌&&◌, ◌||◌, List, [], ◌∷◌, refl, ap, sym, arith, if◌then◌else◌}
use Rattle.std.proofs.lemmas.Bool.{and_parts}
use Rattle.std.proofs.lemmas.Bool.Decides.{nat_tests}
use Rattle.std.specs.List.{list_all}
use Rattle.std.specs.Prelude.{nat_le}
use Rattle.std.specs.Set.{remove_key}
use Rattle.channel_actions.specs.Sets.{PairsAreExactly}
use Rattle.channel_core.specs.Timing.{due_keys, later}
use Rattle.picker_gate.specs.Pairs.{has, comes_after, is_same}
use Rattle.channel_actions.proofs.Links.Settings.Pairs.{self_same}

-- all pairs begin with 0
abbrev pub are_plain : List (ℕ × ℕ) → Bool
are_plain pairs = list_all (λ (p : ℕ × ℕ). p.0 == 0) pairs

due_now : (n : ℕ) → (n == 0) ≡ true → nat_le n 0 ≡ true
due_now n e = grind (arith, nat_tests)

pub none_later : (pairs : List (ℕ × ℕ)) → are_plain pairs ≡ true → later 0 pairs ≡ []
none_later [] plain = refl
none_later (p ∷ pairs) plain =
    let both = and_parts (p.0 == 0) (are_plain pairs) plain in
    ap (λ (b : Bool). if b then later 0 pairs else p ∷ pairs) (due_now p.0 both.0) ∙ none_later pairs both.1

pub keys_next : (p : ℕ × ℕ) (pairs : List (ℕ × ℕ)) → are_plain (p ∷ pairs) ≡ true → due_keys 0 (p ∷ pairs) ≡ p.1 ∷ due_keys 0 pairs
keys_next p pairs plain =
    ap (λ (b : Bool). if b then p.1 ∷ due_keys 0 pairs else []) (due_now p.0 (and_parts (p.0 == 0) (are_plain pairs) plain).0)

-- the pair of a set that passes a test, where it begins with 0
all_by : (test : ℕ × ℕ → Bool) (pairs : List (ℕ × ℕ)) → ((q : ℕ × ℕ) → has pairs q ≡ true → test q ≡ true) → list_all test pairs ≡ true
all_by test [] each = refl
all_by test (p ∷ pairs) each =
    ap (λ (b : Bool). b && list_all test pairs) (each p (ap (λ (b : Bool). b || has pairs p) (self_same p)))
    ∙ all_by test pairs (λ q e. each q (ap (λ (b : Bool). is_same q p || b) e ∙ or_true (is_same q p)))
  where
    or_true : (b : Bool) → (b || true) ≡ true
    or_true true = refl
    or_true false = refl

pub plain_by : (pairs : List (ℕ × ℕ)) (test : ℕ → ℕ → Bool) → PairsAreExactly pairs test → ((a b : ℕ) → test a b ≡ true → (a == 0) ≡ true) → are_plain pairs ≡ true
plain_by pairs test h zero_ = all_by (λ (p : ℕ × ℕ). p.0 == 0) pairs (λ q e. zero_ q.0 q.1 (sym (h.exact q.0 q.1) ∙ e))

-- the head of such a set has the least number: none below it passes the test
head_in : (p : ℕ × ℕ) (pairs : List (ℕ × ℕ)) → has (p ∷ pairs) p ≡ true
head_in p pairs = ap (λ (b : Bool). b || has pairs p) (self_same p)

pub head_passes : (p : ℕ × ℕ) (pairs : List (ℕ × ℕ)) (test : ℕ → ℕ → Bool) → PairsAreExactly (p ∷ pairs) test → test p.0 p.1 ≡ true
head_passes p pairs test h = sym (h.exact p.0 p.1) ∙ head_in p pairs

not_same : (n m : ℕ) (p : ℕ × ℕ) → (p.0 == 0) ≡ true → m < p.1 → is_same (0, m) p ≡ false
not_same n m p e below = grind (arith, nat_tests)

after_above : (m : ℕ) (p q : ℕ × ℕ) → (p.0 == 0) ≡ true → m < p.1 → comes_after p q ≡ true → is_same (0, m) q ≡ false
after_above m p q e below afterwards = grind (arith, nat_tests)

none_below : (m : ℕ) (p : ℕ × ℕ) (pairs : List (ℕ × ℕ)) → (p.0 == 0) ≡ true → m < p.1 → list_all (comes_after p) pairs ≡ true → has pairs (0, m) ≡ false
none_below m p [] e below all = refl
none_below m p (q ∷ pairs) e below all =
    let both = and_parts (comes_after p q) (list_all (comes_after p) pairs) all in
    ap (λ (b : Bool). b || has pairs (0, m)) (after_above m p q e below both.0) ∙ none_below m p pairs e below both.1

pub below_fails : (p : ℕ × ℕ) (pairs : List (ℕ × ℕ)) (test : ℕ → ℕ → Bool) (m : ℕ) → PairsAreExactly (p ∷ pairs) test → (p.0 == 0) ≡ true → m < p.1 → test 0 m ≡ false
below_fails p pairs test m h e below =
    sym (h.exact 0 m) ∙ ap (λ (b : Bool). b || has pairs (0, m)) (not_same 0 m p e below) ∙ none_below m p pairs e below h.rising.0

-- the head taken out
pub head_out : (p : ℕ × ℕ) (pairs : List (ℕ × ℕ)) → remove_key (is_same p) (p ∷ pairs) ≡ pairs
head_out p pairs = ap (λ (b : Bool). if b then pairs else p ∷ remove_key (is_same p) pairs) (self_same p)
