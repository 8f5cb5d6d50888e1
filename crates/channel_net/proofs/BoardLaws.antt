-- Subchannels by their numbers.
use Rattle.std.proofs.Common.{◌≡◌, ℕ, zero, suc, ◌+◌, ◌-◌, ◌≤◌, ◌<◌, Bool, true, false, is_some, cond, Some, List, [], ◌∷◌, length, slice_get, refl, ap, subst, arith}
use Rattle.std.specs.List.{position_from}
use Rattle.subchannel.specs.Records.{SubRecord}
use Rattle.subchannel.specs.Boards.{HasNumber, changed, changed_at, numbered, first_number}

within-get : (subs : List SubRecord) (place : ℕ) → is_some (slice_get subs place) ≡ true → place < length subs
within-get [] place e = let g : ⊥ = (cc) in absurd g
within-get (s ∷ subs) zero e = omega arith
within-get (s ∷ subs) (suc place) e = let next : place < length subs = within-get subs place e in omega arith

pub has_number : (subs : List SubRecord) (n : ℕ) → is_some (numbered subs n) ≡ true → HasNumber subs n
has_number subs zero e = let g : ⊥ = (cc) in absurd g
has_number subs (suc place) e =
    let inside : place < length subs = within-get subs place e in record { from_one = omega arith; within = omega arith }

past-end : (f : SubRecord → SubRecord) (subs : List SubRecord) (place : ℕ) → is_some (slice_get subs place) ≡ false → subs ≡ changed f subs place
past-end f [] place e = refl
past-end f (s ∷ subs) zero e = let g : ⊥ = (cc) in absurd g
past-end f (s ∷ subs) (suc place) e = ap (λ (xs : List SubRecord). s ∷ xs) (past-end f subs place e)

pub changed_none : (f : SubRecord → SubRecord) (subs : List SubRecord) (n : ℕ) → is_some (numbered subs n) ≡ false → subs ≡ changed_at f subs n
changed_none f subs zero e = refl
changed_none f subs (suc place) e = past-end f subs place e

-- what a search by number finds
pub record Found (p : SubRecord → Bool) (subs : List SubRecord) (n k : ℕ) : Type 0 where
  pub from : n ≤ k
  pub s : SubRecord
  pub at : slice_get subs (k - n) ≡ Some s
  pub passes : p s ≡ true

found-later : (p : SubRecord → Bool) (x : SubRecord) (subs : List SubRecord) (n k : ℕ) → Found p subs (n + 1) k → Found p (x ∷ subs) n k
found-later p x subs n k f =
    let le : n + 1 ≤ k = f.from in
    let place : suc (k - (n + 1)) ≡ k - n = omega arith in
    record { from = omega arith; s = f.s; at = subst (λ (i : ℕ). slice_get (x ∷ subs) i ≡ Some f.s) place f.at; passes = f.passes }

found-here : (p : SubRecord → Bool) (x : SubRecord) (subs : List SubRecord) (n k : ℕ) → n ≡ k → p x ≡ true → Found p (x ∷ subs) n k
found-here p x subs n k e test =
    let place : 0 ≡ k - n = omega arith in
    record { from = omega arith; s = x; at = subst (λ (i : ℕ). slice_get (x ∷ subs) i ≡ Some x) place refl; passes = test }

found-step : (p : SubRecord → Bool) (x : SubRecord) (subs : List SubRecord) (n k : ℕ) (b : Bool) → p x ≡ b → cond b (Some n) (position_from p (n + 1) subs) ≡ Some k → (position_from p (n + 1) subs ≡ Some k → Found p subs (n + 1) k) → Found p (x ∷ subs) n k
found-step p x subs n k true test e next = found-here p x subs n k (cc) test
found-step p x subs n k false test e next = found-later p x subs n k (next e)

pub found : (p : SubRecord → Bool) (subs : List SubRecord) (n k : ℕ) → position_from p n subs ≡ Some k → Found p subs n k
found p [] n k e = let g : ⊥ = (cc) in absurd g
found p (x ∷ subs) n k e = found-step p x subs n k (p x) refl e (found p subs (n + 1) k)

numbered-at : (subs : List SubRecord) (k : ℕ) (s : SubRecord) → 1 ≤ k → slice_get subs (k - 1) ≡ Some s → numbered subs k ≡ Some s
numbered-at subs zero s h e = absurd (omega arith)
numbered-at subs (suc place) s h e =
    let same : suc place - 1 ≡ place = omega arith in subst (λ (i : ℕ). slice_get subs i ≡ Some s) same e

-- the first number that passes a test is one that does
pub record FirstFound (p : SubRecord → Bool) (subs : List SubRecord) (k : ℕ) : Type 0 where
  pub s : SubRecord
  pub at : numbered subs k ≡ Some s
  pub passes : p s ≡ true

pub first-found : (p : SubRecord → Bool) (subs : List SubRecord) (k : ℕ) → first_number p subs ≡ Some k → FirstFound p subs k
first-found p subs k e =
    let f : Found p subs 1 k = found p subs 1 k e in
    record { s = f.s; at = numbered-at subs k f.s f.from f.at; passes = f.passes }
