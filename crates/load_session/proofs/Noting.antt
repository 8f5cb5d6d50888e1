-- The ends that are noted while the journal is read are the first ones.
use Rattle.std.proofs.Common.{◌≡◌, ◌∙◌, ℕ, zero, suc, ◌+◌, ◌<◌, ◌≤◌, Bool, true, false, List, [], ◌∷◌, ◌++◌, length, map, refl, sym, ap, arith, inl, inr, get_or, take}
use Rattle.std.specs.Prelude.{◌==◌, if◌then◌else◌, ◌⊎◌, Option, Some, None, slice_get, slice_set}
use Rattle.std.specs.List.{range_with_len}
use Rattle.std.specs.Option.{option_or}
use Rattle.std.proofs.lemmas.List.{take_more}
use Rattle.std.proofs.lemmas.List.FromFn.{length-map-range_with_len, map-range_with_len_more}
use Rattle.std.proofs.lemmas.Bool.{eq-eqb, eqb-false, eqb-true, ne_eqb}
use Rattle.grpc_base.specs.declared.event.Entry.{Entry}
use Rattle.load_session.specs.Steps.{noted, noted_at, noted_by, noted_entry}
use Rattle.load_session.specs.Sums.{call_taken, end_at, end_by, end_code, first_end}

-- at first none is noted
pub none_more : (n : ℕ) (ends : List (Option ℕ)) → ends ≡ map (first_end []) (range_with_len 0 n) → ends ++ None ∷ [] ≡ map (first_end []) (range_with_len 0 (n + 1))
none_more n ends are = ap (λ (xs : List (Option ℕ)). xs ++ None ∷ []) are ∙ sym (map-range_with_len_more (first_end []) 0 n n (omega arith))

-- ---- one entry more

or_assoc : (x y z : Option ℕ) → option_or (option_or x y) z ≡ option_or x (option_or y z)
or_assoc None y z = refl
or_assoc (Some x) y z = refl

or_none : (x : Option ℕ) → option_or x None ≡ x
or_none None = refl
or_none (Some x) = refl

first_more : (entries : List Entry) (e : Entry) (call : ℕ) → first_end (entries ++ e ∷ []) call ≡ option_or (first_end entries call) (end_at call e)
first_more [] e call = or_none (end_at call e)
first_more (x ∷ entries) e call =
    ap (option_or (end_at call x)) (first_more entries e call)
    ∙ sym (or_assoc (end_at call x) (first_end entries call) (end_at call e))

-- ---- what stands for each of some numbers

same_map : {X : Type 0} (f g : ℕ → X) (a n : ℕ) → ((j : ℕ) → a ≤ j → j < a + n → f j ≡ g j) → map f (range_with_len a n) ≡ map g (range_with_len a n)
same_map f g a zero same = refl
same_map {X} f g a (suc n) same =
    ap (λ (x : X). x ∷ map f (range_with_len (a + 1) n)) (same a (omega arith) (omega arith))
    ∙ ap (λ (xs : List X). g a ∷ xs) (same_map f g (a + 1) n (λ j low high. same j (omega (arith, low)) (omega (arith, high))))

-- another value at one of them
set_map : {X : Type 0} (f g : ℕ → X) (a n k p : ℕ) → a + k ≡ p → ((j : ℕ) → a ≤ j → (j ≡ p → ⊥) → f j ≡ g j) → slice_set (map f (range_with_len a n)) k (g p) ≡ map g (range_with_len a n)
set_map f g a zero k p at same = refl
set_map {X} f g a (suc n) zero p at same =
    let here : p ≡ a = omega (arith, at) in
    ap (λ (j : ℕ). g j ∷ map f (range_with_len (a + 1) n)) here
    ∙ ap (λ (xs : List X). g a ∷ xs) (same_map f g (a + 1) n (λ j low high. same j (omega (arith, low)) (λ (e : j ≡ p). (let no : ⊥ = omega (arith, low, e, here) in no))))
set_map {X} f g a (suc n) (suc k) p at same =
    let further : a + 1 + k ≡ p = omega (arith, at) in
    ap (λ (x : X). x ∷ slice_set (map f (range_with_len (a + 1) n)) k (g p)) (same a (omega arith) (λ (e : a ≡ p). (let no : ⊥ = omega (arith, at, e) in no)))
    ∙ ap (λ (xs : List X). g a ∷ xs) (set_map f g (a + 1) n k p further (λ j low. same j (omega (arith, low))))

-- the value at one of them, if it is one of them
got : {X : Type 0} (f : ℕ → X) (a n k p : ℕ) → a + k ≡ p → (slice_get (map f (range_with_len a n)) k ≡ Some (f p)) ⊎ ((slice_get (map f (range_with_len a n)) k ≡ None) × (a + n ≤ p))
got f a zero k p at = inr (refl, omega (arith, at))
got {X} f a (suc n) zero p at =
    let here : a ≡ p = omega (arith, at) in
    inl (ap (λ (j : ℕ). Some (f j)) here)
got f a (suc n) (suc k) p at =
    let further : a + 1 + k ≡ p = omega (arith, at) in
    afterwards (got f (a + 1) n k p further)
  where
    afterwards : (slice_get (map f (range_with_len (a + 1) n)) k ≡ Some (f p)) ⊎ ((slice_get (map f (range_with_len (a + 1) n)) k ≡ None) × (a + 1 + n ≤ p)) → (slice_get (map f (range_with_len (a + 1) n)) k ≡ Some (f p)) ⊎ ((slice_get (map f (range_with_len (a + 1) n)) k ≡ None) × (a + suc n ≤ p))
    afterwards (inl there) = inl there
    afterwards (inr gone) = inr (gone.0, omega (arith, gone.1))

-- ---- an end is noted

abbrev with_end : (ℕ → Option ℕ) → Option ℕ → Option ℕ → ℕ → Option ℕ
with_end f o c call = option_or (f call) (end_by call o c)

-- where no end comes, or none of this call
by_same : (call k code : ℕ) (b : Bool) → b ≡ true → (if b then Some code else None) ≡ Some code
by_same call k code true e = refl
by_same call k code false e = absurd (cc)

by_other : (code : ℕ) (b : Bool) → b ≡ false → ◌≡◌ {A = Option ℕ} (if b then Some code else None) None
by_other code true e = absurd (cc)
by_other code false e = refl

end_by-same : (call code : ℕ) → end_by call (Some call) (Some code) ≡ Some code
end_by-same call code = by_same call call code (call == call) (eq-eqb call call refl)

end_by-other : (call k code : ℕ) → (call ≡ k → ⊥) → end_by call (Some k) (Some code) ≡ None
end_by-other call k code other = by_other code (k == call) (ne_eqb k call (λ (e : k ≡ call). other (sym e)))

no_code : (b : Bool) → ◌≡◌ {A = Option ℕ} (if b then None else None) None
no_code true = refl
no_code false = refl

with_none : (f : ℕ → Option ℕ) (call : ℕ) (x : Option ℕ) → x ≡ None → f call ≡ option_or (f call) x
with_none f call x none = sym (ap (option_or (f call)) none ∙ or_none (f call))

-- an end of a call, by what was noted of it
noted_found : (f : ℕ → Option ℕ) (n k code : ℕ) (was : Option ℕ) → f k ≡ was → slice_get (map f (range_with_len 0 n)) k ≡ Some (f k) → noted_at k code (map f (range_with_len 0 n)) (Some was) ≡ map (with_end f (Some k) (Some code)) (range_with_len 0 n)
noted_found f n k code None is there =
    let g : ℕ → Option ℕ = with_end f (Some k) (Some code) in
    let new : g k ≡ Some code = ap (λ (x : Option ℕ). option_or x (end_by k (Some k) (Some code))) is ∙ end_by-same k code in
    ap (slice_set (map f (range_with_len 0 n)) k) (sym new)
    ∙ set_map f g 0 n k k (omega arith) (λ j low other. with_none f j (end_by j (Some k) (Some code)) (end_by-other j k code other))
noted_found f n k code (Some x) is there =
    same_map f (with_end f (Some k) (Some code)) 0 n (λ j low high. each j (j == k) refl)
  where
    kept : (j : ℕ) → j ≡ k → f j ≡ option_or (f j) (end_by j (Some k) (Some code))
    kept j e = ap f e ∙ is ∙ sym (ap (λ (y : Option ℕ). option_or y (end_by j (Some k) (Some code))) (ap f e ∙ is))

    each : (j : ℕ) (b : Bool) → (j == k) ≡ b → f j ≡ option_or (f j) (end_by j (Some k) (Some code))
    each j true e = kept j (eqb-true j k e)
    each j false e = with_none f j (end_by j (Some k) (Some code)) (end_by-other j k code (λ (s : j ≡ k). eqb-false j k e s))

noted_call : (f : ℕ → Option ℕ) (n k code : ℕ) → noted k code (map f (range_with_len 0 n)) ≡ map (with_end f (Some k) (Some code)) (range_with_len 0 n)
noted_call f n k code = by_place (got f 0 n k k (omega arith))
  where
    by_place : (slice_get (map f (range_with_len 0 n)) k ≡ Some (f k)) ⊎ ((slice_get (map f (range_with_len 0 n)) k ≡ None) × (0 + n ≤ k)) → noted k code (map f (range_with_len 0 n)) ≡ map (with_end f (Some k) (Some code)) (range_with_len 0 n)
    by_place (inl there) = ap (noted_at k code (map f (range_with_len 0 n))) there ∙ noted_found f n k code (f k) refl there
    by_place (inr gone) =
        ap (noted_at k code (map f (range_with_len 0 n))) gone.0
        ∙ same_map f (with_end f (Some k) (Some code)) 0 n (λ j low high. with_none f j (end_by j (Some k) (Some code)) (end_by-other j k code (λ (e : j ≡ k). (let no : ⊥ = omega (arith, high, e, gone.1) in no))))

noted_parts : (f : ℕ → Option ℕ) (n : ℕ) (o c : Option ℕ) → noted_by o c (map f (range_with_len 0 n)) ≡ map (with_end f o c) (range_with_len 0 n)
noted_parts f n None c = same_map f (with_end f None c) 0 n (λ j low high. with_none f j None refl)
noted_parts f n (Some k) None = same_map f (with_end f (Some k) None) 0 n (λ j low high. with_none f j (end_by j (Some k) None) (no_code (k == j)))
noted_parts f n (Some k) (Some code) = noted_call f n k code

-- one entry more is read
pub noted_more : (entries : List Entry) (e : Entry) (n : ℕ) (ends : List (Option ℕ)) → ends ≡ map (first_end entries) (range_with_len 0 n) → noted_entry e ends ≡ map (first_end (entries ++ e ∷ [])) (range_with_len 0 n)
noted_more entries e n ends are =
    ap (noted_entry e) are
    ∙ noted_parts (first_end entries) n (call_taken e.event) (end_code e.reply)
    ∙ same_map (with_end (first_end entries) (call_taken e.event) (end_code e.reply)) (first_end (entries ++ e ∷ [])) 0 n (λ j low high. sym (first_more entries e j))

-- the entries up to one more
pub entries_more : (entries : List Entry) (i : ℕ) (e : Entry) → i < length entries → e ≡ get_or entries i e → take (i + 1) entries ≡ take i entries ++ e ∷ []
entries_more entries i e within is = take_more entries i e within ∙ ap (λ (x : Entry). take i entries ++ x ∷ []) (sym is)

-- the calls after number 0
pub from_one : (f : ℕ → Option ℕ) (n : ℕ) → map f (range_with_len 0 (n + 1)) ≡ f 0 ∷ map f (range_with_len 1 n)
from_one f n =
    let count : n + 1 ≡ suc n = omega arith in
    ap (λ (k : ℕ). map f (range_with_len 0 k)) count

pub after_the_first : (f : ℕ → Option ℕ) (n : ℕ) (ends rest : List (Option ℕ)) → ends ≡ map f (range_with_len 0 (n + 1)) → ((first : Option ℕ) (others : List (Option ℕ)) → ends ≡ first ∷ others → rest ≡ others) → rest ≡ map f (range_with_len 1 n)
after_the_first f n ends rest are reported = reported (f 0) (map f (range_with_len 1 n)) (are ∙ from_one f n)

pub are_few : (f : ℕ → Option ℕ) (n : ℕ) (rest : List (Option ℕ)) → rest ≡ map f (range_with_len 1 n) → n ≤ 10000 → length rest ≤ 10000
are_few f n rest is few =
    let long : length rest ≡ n = ap (λ (xs : List (Option ℕ)). length xs) is ∙ length-map-range_with_len f 1 n in
    omega (arith, long, few)
