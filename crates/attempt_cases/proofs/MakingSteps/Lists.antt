-- A list with one thing more at its end, and a table of calls of which one was changed in what is not read.
use Rattle.std.proofs.Common.{◌≡◌, ◌∙◌, ◌+◌, ◌&&◌, ◌||◌, ◌==◌, ◌++◌, ◌∷◌, ap, arith, refl, subst, sym, eqb-true, Bool, true, false, List, [], Option, None, Some, ℕ, zero, suc, length, slice_get}
use Rattle.std.proofs.lemmas.Bool.{eqb-false}
use Rattle.std.proofs.lemmas.Bool.Decides.{nat_tests}
use Rattle.std.specs.List.{AllByRecursion}
use Rattle.std.specs.Option.{option_map, option_map_or}
use Rattle.call_actions.proofs.Lists.{changed_away, changed_map}
use Rattle.picker_gate.specs.Pairs.{is_same}
use Rattle.session_actions.specs.Words.{changed, holds, numbered}

get_away : {X : Type 0} (xs : List X) (y : X) (i : ℕ) → (i ≡ length xs → ⊥) → slice_get (xs ++ y ∷ []) i ≡ slice_get xs i
get_away [] y zero off = absurd (off refl)
get_away [] y (suc i) off = refl
get_away (x ∷ xs) y zero off = refl
get_away (x ∷ xs) y (suc i) off = get_away xs y i (λ e. off (ap (λ (k : ℕ). suc k) e))

last_next : (n i : ℕ) → (suc i == n + 1) ≡ false → i ≡ n → ⊥
last_next n i e f = grind (arith, nat_tests)

pub more_away : {X : Type 0} (xs : List X) (y : X) (n : ℕ) → (n == length xs + 1) ≡ false → numbered (xs ++ y ∷ []) n ≡ numbered xs n
more_away xs y zero e = refl
more_away xs y (suc i) e = get_away xs y i (last_next (length xs) i e)

get_none : {X : Type 0} (xs : List X) → slice_get xs (length xs) ≡ None
get_none [] = refl
get_none (x ∷ xs) = get_none xs

pub none_next : {X : Type 0} (xs : List X) → numbered xs (length xs + 1) ≡ None
none_next xs =
    let one : length xs + 1 ≡ suc (length xs) = omega arith in ap (numbered xs) one ∙ get_none xs

pub all_last : {X : Type 0} (P : X → Type 0) (xs : List X) (y : X) → AllByRecursion P xs → P y → AllByRecursion P (xs ++ y ∷ [])
all_last P [] y all one = (one, tt)
all_last P (x ∷ xs) y all one = (all.0, all_last P xs y all.1 one)

-- what is read of calls
holds_mapped : {X : Type 0} (f : X → X) (G : X → Bool) → ((x : X) → G (f x) ≡ G x) → (o : Option X) → holds G (option_map f o) ≡ holds G o
holds_mapped f G same None = refl
holds_mapped f G same (Some x) = same x

holds_by : {X : Type 0} (f : X → X) (n : ℕ) (xs : List X) (G : X → Bool) → ((x : X) → G (f x) ≡ G x) → (j : ℕ) (b : Bool) → (j == n) ≡ b
    → holds G (numbered (changed f n xs) j) ≡ holds G (numbered xs j)
holds_by f n xs G same j true e =
    subst (λ (i : ℕ). holds G (numbered (changed f n xs) i) ≡ holds G (numbered xs i)) (sym (eqb-true j n e))
    (ap (holds G) (changed_map f n xs) ∙ holds_mapped f G same (numbered xs n))
holds_by f n xs G same j false e = ap (holds G) (changed_away f n j xs (eqb-false j n e))

pub holds_changed : {X : Type 0} (f : X → X) (n : ℕ) (xs : List X) (G : X → Bool) → ((x : X) → G (f x) ≡ G x) → (j : ℕ)
    → holds G (numbered (changed f n xs) j) ≡ holds G (numbered xs j)
holds_changed f n xs G same j = holds_by f n xs G same j (j == n) refl

pub holds_alike : {X : Type 0} (G H : X → Bool) → ((x : X) → G x ≡ H x) → (o : Option X) → holds G o ≡ holds H o
holds_alike G H same None = refl
holds_alike G H same (Some x) = same x

pub or_alike : {X Y : Type 0} (g h : X → Y) (d : Y) → ((x : X) → g x ≡ h x) → (o : Option X) → option_map_or g o d ≡ option_map_or h o d
or_alike g h d same None = refl
or_alike g h d same (Some x) = same x

-- pairs by their second numbers
pub pair_here : (k n p : ℕ) → is_same (k, p) (n, p) ≡ (n == k)
pair_here k n p = grind (arith, nat_tests)

pub pair_away : (k n row p : ℕ) → (row == p) ≡ false → is_same (k, row) (n, p) ≡ false
pair_away k n row p e = grind (arith, nat_tests)

pub pair_first : (k n row p : ℕ) → is_same (k, row) (n, p) ≡ true → k ≡ n
pair_first k n row p e = grind (arith, nat_tests)

-- tests
pub in_out : (same w p : Bool) → (same ≡ true → p ≡ false) → (w && p) ≡ ((same || w) && p)
in_out true true true e = absurd (let bad : true ≡ false = e refl in (cc))
in_out true false true e = absurd (let bad : true ≡ false = e refl in (cc))
in_out true true false e = refl
in_out true false false e = refl
in_out false w p e = refl

pub in_with : (same w p : Bool) → (same ≡ true → p ≡ true) → (same || (w && p)) ≡ ((same || w) && p)
in_with true w true e = refl
in_with true w false e = absurd (let bad : false ≡ true = e refl in (cc))
in_with false w p e = refl
