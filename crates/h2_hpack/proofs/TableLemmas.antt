-- Taking the oldest entries off until the rest fits leaves the newest ones that fit.
use Rattle.std.proofs.Common.{◌≡◌, ℕ, ◌+◌, ◌-◌, ◌<◌, ◌≤◌, List, [], ◌∷◌, ◌++◌, refl, ap, arith, inl, inr, cond, nat_le, sym, ◌∙◌, Some, None}
use Rattle.std.proofs.lemmas.Bool.{cases_lt, lt-ltb, le-ltb, lt-leb, le-leb}
use Rattle.grpc_base.specs.declared.fields.Field.{Field}
use Rattle.h2_hpack.specs.Tables.{field_size, list_size, fitting}

pub list_size-append : (xs ys : List Field) → list_size (xs ++ ys) ≡ list_size xs + list_size ys
list_size-append [] ys = omega arith
list_size-append (f ∷ xs) ys = omega (arith, list_size-append xs ys)

pub fitting-all : (room : ℕ) (xs : List Field) → list_size xs ≤ room → fitting room xs ≡ xs
fitting-all room [] within = refl
fitting-all room (f ∷ xs) within = rw (le-ltb room (field_size f) (omega (arith, within))) (ap (λ l. f ∷ l) (fitting-all (room - field_size f) xs (omega (arith, within))))

pub fitting-without_last : (room : ℕ) (xs : List Field) (y : Field) → room < list_size (xs ++ y ∷ []) → fitting room (xs ++ y ∷ []) ≡ fitting room xs
fitting-without_last room [] y above = rw (lt-ltb room (field_size y) (omega (arith, above))) refl
fitting-without_last room (f ∷ xs) y above =
    elim (cases_lt room (field_size f)) [
      | inl small ↦ rw (lt-ltb room (field_size f) small) refl
      | inr fits ↦ rw (le-ltb room (field_size f) fits) (ap (λ l. f ∷ l) (fitting-without_last (room - field_size f) xs y (omega (arith, above, fits))))
    ]

-- the size of the oldest entry is what the others lack
pub last_size : (xs rest : List Field) (y : Field) (n : ℕ) → n ≡ list_size xs → xs ≡ rest ++ y ∷ [] → field_size y + list_size rest ≡ n
last_size xs rest y n is whole = omega (arith, list_size-append rest (y ∷ []), is, ap list_size whole)

-- the entries that are left, with the oldest one taken off
pub evicted_one : (room : ℕ) (xs rest before : List Field) (y : Field) (n : ℕ) → n ≡ list_size xs → xs ≡ rest ++ y ∷ [] → room < n → fitting room xs ≡ fitting room before → fitting room rest ≡ fitting room before
evicted_one room xs rest before y n is whole above kept =
    sym (fitting-without_last room rest y (omega (arith, is, above, ap list_size whole))) ∙ ap (fitting room) (sym whole) ∙ kept

-- whether a field finds room
pub room_found : (room size left : ℕ) → Some left ≡ cond (nat_le size room) (Some (room - size)) None → (size ≤ room) × (left ≡ room - size)
room_found room size left h =
    elim (cases_lt room size) [
      | inl small ↦ absurd (cc (rw (lt-leb size room small) at h))
      | inr fits ↦ (fits, cc (rw (le-leb size room fits) at h))
    ]

pub no_room : (room size : ℕ) → None ≡ cond (nat_le size room) (Some (room - size)) None → room < size
no_room room size h =
    elim (cases_lt room size) [
      | inl small ↦ small
      | inr fits ↦ absurd (cc (rw (le-leb size room fits) at h))
    ]
