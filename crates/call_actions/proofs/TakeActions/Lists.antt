-- Places in lists, and attempts that stand at their places.
use Rattle.std.proofs.Common.{◌≡◌, ◌+◌, ◌∷◌, ◌++◌, ap, arith, refl, sym, ◌∙◌, Bool, true, false, List, [], Option, None, Some, ℕ, zero, suc, if◌then◌else◌, length, map, slice_get}
use Rattle.std.proofs.lemmas.Bool.{lt-ltb}
use Rattle.std.proofs.lemmas.Option.{slice_get-map, slice_get_within}
use Rattle.std.specs.Option.{option_map, option_map_or, option_or}
use Rattle.attempt_ledger.specs.declared.row.Row.{Row}
use Rattle.call_core.specs.Parts.{row_at}
use Rattle.ledger_stamps.specs.Steps.{index_at}
use Rattle.session_actions.specs.Words.{find_last, numbered}
use Rattle.session_actions.specs.declared.attempt.Attempt.{Attempt}
use Rattle.call_actions.specs.TakeActions.Serves.{AttemptsStandInPlace}

-- functions that agree
pub or_same : {X Y : Type 0} (g h : X → Y) (d : Y) → ((x : X) → g x ≡ h x) → (o : Option X) → option_map_or g o d ≡ option_map_or h o d
or_same g h d same None = refl
or_same g h d same (Some x) = same x

-- what stands after a prefix, and after all
pub at_prefix : {X : Type 0} (xs : List X) (y : X) (zs es : List X) → slice_get ((xs ++ (y ∷ zs)) ++ es) (length xs) ≡ Some y
at_prefix [] y zs es = refl
at_prefix (x ∷ xs) y zs es = at_prefix xs y zs es

pub at_end : {X : Type 0} (xs es : List X) → slice_get ((xs ++ []) ++ es) (length xs) ≡ slice_get es zero
at_end [] es = refl
at_end (x ∷ xs) es = at_end xs es

pub numbered_prefix : {X : Type 0} (xs : List X) (y : X) (zs es : List X) (n : ℕ) → length xs ≡ n → numbered ((xs ++ (y ∷ zs)) ++ es) (n + 1) ≡ Some y
numbered_prefix xs y zs es n e =
    let number : n + 1 ≡ suc (length xs) = omega (arith, e) in
    ap (numbered ((xs ++ (y ∷ zs)) ++ es)) number ∙ at_prefix xs y zs es

pub numbered_end : {X : Type 0} (xs es : List X) (n : ℕ) → length xs ≡ n → numbered ((xs ++ []) ++ es) (n + 1) ≡ slice_get es zero
numbered_end xs es n e =
    let number : n + 1 ≡ suc (length xs) = omega (arith, e) in
    ap (numbered ((xs ++ []) ++ es)) number ∙ at_end xs es

pub longer : {X : Type 0} (xs : List X) (y : X) (n : ℕ) → length xs ≡ n → length (xs ++ y ∷ []) ≡ n + 1
longer [] y n e = omega (arith, e)
longer (x ∷ xs) y n e =
    let rest : length (xs ++ y ∷ []) ≡ length xs + 1 = longer xs y (length xs) refl in omega (arith, rest, e)

-- the row of a place
pub row_numbered : (rows : List Row) (n : ℕ) (r : Row) → numbered rows n ≡ Some r → row_at rows (index_at n (length rows)) ≡ Some r
row_numbered rows zero r e = absurd (cc)
row_numbered rows (suc i) r e =
    ap (λ (b : Bool). row_at rows (if b then Some i else None)) (lt-ltb i (length rows) (slice_get_within rows i r e)) ∙ e

pub numbered_map : {X Y : Type 0} (f : X → Y) (xs : List X) (n : ℕ) (x : X) → numbered xs n ≡ Some x → numbered (map f xs) n ≡ Some (f x)
numbered_map f xs zero x e = absurd (cc)
numbered_map f xs (suc i) x e = slice_get-map f xs i ∙ ap (option_map f) e

-- the last attempt that passes a test stands at its place
pub record IsThere (n : ℕ) (xs : List Attempt) (k : Attempt) : Type 0 where
  pub index : ℕ
  pub here : slice_get xs index ≡ Some k
  pub place : k.place ≡ n + index

pub there_last : (n : ℕ) (x : Attempt) (xs : List Attempt) (k : Attempt) → x.place ≡ n → (b : Bool) → (if b then Some x else None) ≡ Some k → IsThere n (x ∷ xs) k
there_last n x xs k p false e = absurd (cc)
there_last n x xs k p true e =
    let same : x ≡ k = (cc) in
    record { index = zero; here = e; place = sym (ap (λ (z : Attempt). z.place) same) ∙ p ∙ omega arith }

pub there_more : (n : ℕ) (x : Attempt) (xs : List Attempt) (k : Attempt) → IsThere (suc n) xs k → IsThere n (x ∷ xs) k
there_more n x xs k t =
    let place : k.place ≡ suc n + t.index = t.place in record { index = suc t.index; here = t.here; place = omega (arith, place) }

pub there_by : (n : ℕ) (x : Attempt) (xs : List Attempt) (k : Attempt) (b : Bool) (o : Option Attempt) → x.place ≡ n → ((z : Attempt) → o ≡ Some z → IsThere (suc n) xs z)
    → option_or o (if b then Some x else None) ≡ Some k → IsThere n (x ∷ xs) k
there_by n x xs k b None p rest e = there_last n x xs k p b e
there_by n x xs k b (Some z) p rest e = there_more n x xs k (rest k e)

pub there : (n : ℕ) (xs : List Attempt) → AttemptsStandInPlace n xs → (test : Attempt → Bool) (k : Attempt) → find_last test xs ≡ Some k → IsThere n xs k
there n [] places test k e = absurd (cc)
there n (x ∷ xs) places test k e =
    there_by n x xs k (test x) (find_last test xs) places.0 (λ z f. there (suc n) xs places.1 test z f) e

pub found_at : (xs : List Attempt) → AttemptsStandInPlace 1 xs → (test : Attempt → Bool) (k : Attempt) → find_last test xs ≡ Some k → numbered xs k.place ≡ Some k
found_at xs places test k e =
    let t : IsThere 1 xs k = there 1 xs places test k e in
    let place : k.place ≡ 1 + t.index = t.place in
    let number : k.place ≡ suc t.index = omega (arith, place) in
    ap (numbered xs) number ∙ t.here
