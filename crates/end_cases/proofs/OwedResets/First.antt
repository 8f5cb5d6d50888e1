-- The attempt whose stream is reset next stands first among those of its link whose streams are to be reset.
use Rattle.std.proofs.Common.{◌≡◌, ◌∷◌, ◌&&◌, ap, arith, refl, subst, sym, ◌∙◌, not, Bool, true, false, List, [], None, Option, Some, ℕ, zero, suc, cond, filter, if◌then◌else◌, length, nat_lt, slice_get, slice_set}
use Rattle.std.proofs.lemmas.Bool.{and_parts}
use Rattle.std.proofs.lemmas.Bool.Decides.{nat_tests}
use Rattle.std.specs.List.{list_all}
use Rattle.link_actions.specs.Sees.{by_stream, put_by_stream}
use Rattle.session_actions.specs.Links.{stream_number}
use Rattle.session_actions.specs.Words.{earlier, foremost}
use Rattle.session_actions.specs.declared.attempt.Attempt.{Attempt}

below_none : (i : ℕ) → nat_lt i 0 ≡ false
below_none i = grind (arith, nat_tests)

one_down : (i n : ℕ) → nat_lt (suc i) (suc n) ≡ true → nat_lt i n ≡ true
one_down i n e = grind (arith, nat_tests, e)

one_up : (i n : ℕ) → nat_lt i n ≡ true → nat_lt (suc i) (suc n) ≡ true
one_up i n e = grind (arith, nat_tests, e)

above_none : (n : ℕ) → nat_lt 0 (suc n) ≡ true
above_none n = grind (arith, nat_tests)

-- the foremost one comes before each that stands earlier in the list
pub record IsEarliest {X : Type 0} (before : X → X → Bool) (p : X → Bool) (xs : List X) (a : X) : Type 0 where
  pub index : ℕ
  pub there : slice_get xs index ≡ Some a
  pub passes : p a ≡ true
  pub earlier_ : (i : ℕ) (x : X) → nat_lt i index ≡ true → slice_get xs i ≡ Some x → p x ≡ true → before a x ≡ true

module _ {X : Type 0} (before : X → X → Bool) (p : X → Bool) where
  none_before : (x a : X) (xs : List X) → p x ≡ true → x ≡ a → IsEarliest before p (x ∷ xs) a
  none_before x a xs on same =
      subst (IsEarliest before p (x ∷ xs)) same (record {
        index = 0;
        there = refl;
        passes = on;
        earlier_ = λ i y below at passes. absurd (let bad : true ≡ false = sym below ∙ below_none i in (cc));
      })

  on_by : (x a : X) (xs : List X) (index : ℕ) → (p x ≡ true → before a x ≡ true)
      → ((i : ℕ) (y : X) → nat_lt i index ≡ true → slice_get xs i ≡ Some y → p y ≡ true → before a y ≡ true)
      → (i : ℕ) (y : X) → nat_lt i (suc index) ≡ true → slice_get (x ∷ xs) i ≡ Some y → p y ≡ true → before a y ≡ true
  on_by x a xs index here rest zero y below at passes =
      let same : y ≡ x = (cc) in subst (λ (z : X). before a z ≡ true) (sym same) (here (ap p (sym same) ∙ passes))
  on_by x a xs index here rest (suc i) y below at passes = rest i y (one_down i index below) at passes

  step_on : (x a : X) (xs : List X) → (p x ≡ true → before a x ≡ true) → IsEarliest before p xs a → IsEarliest before p (x ∷ xs) a
  step_on x a xs here e =
      record { index = suc e.index; there = e.there; passes = e.passes; earlier_ = on_by x a xs e.index here e.earlier_ }

  chosen : (x y a : X) (xs : List X) (b : Bool) → before y x ≡ b → p x ≡ true → IsEarliest before p xs y → (if b then y else x) ≡ a → IsEarliest before p (x ∷ xs) a
  chosen x y a xs true e on f same = subst (IsEarliest before p (x ∷ xs)) same (step_on x y xs (λ passes. e) f)
  chosen x y a xs false e on f same = none_before x a xs on same

  among : (x a : X) (xs : List X) (o : Option X) → p x ≡ true → ((y : X) → o ≡ Some y → IsEarliest before p xs y) → Some (earlier before x o) ≡ Some a
      → IsEarliest before p (x ∷ xs) a
  among x a xs None on rest is = none_before x a xs on (cc)
  among x a xs (Some y) on rest is = chosen x y a xs (before y x) refl on (rest y refl) (cc)

  by_test : (x a : X) (xs : List X) (b : Bool) → p x ≡ b → ((y : X) → foremost before (filter p xs) ≡ Some y → IsEarliest before p xs y)
      → foremost before (cond b (x ∷ filter p xs) (filter p xs)) ≡ Some a → IsEarliest before p (x ∷ xs) a
  by_test x a xs true e rest is = among x a xs (foremost before (filter p xs)) e rest is
  by_test x a xs false e rest is = step_on x a xs (λ passes. absurd (let bad : true ≡ false = sym passes ∙ e in (cc))) (rest a is)

  pub earliest : (xs : List X) (a : X) → foremost before (filter p xs) ≡ Some a → IsEarliest before p xs a
  earliest [] a is = absurd (cc)
  earliest (x ∷ xs) a is = by_test x a xs (p x) refl (earliest xs) is

-- in the order of streams, what is not above all others stands first
not_true : (b : Bool) → not b ≡ true → b ≡ false
not_true true e = absurd (cc)
not_true false e = refl

not_false : (b : Bool) → b ≡ false → not b ≡ true
not_false b e = ap not e

put_low : (a : Attempt) (bs : List Attempt) → list_all (λ (b : Attempt). not (nat_lt (stream_number b) (stream_number a))) bs ≡ true → put_by_stream a bs ≡ a ∷ bs
put_low a [] e = refl
put_low a (b ∷ bs) e =
    ap (λ (q : Bool). if q then b ∷ put_by_stream a bs else a ∷ b ∷ bs)
    (not_true (nat_lt (stream_number b) (stream_number a))
    (and_parts (not (nat_lt (stream_number b) (stream_number a))) (list_all (λ (c : Attempt). not (nat_lt (stream_number c) (stream_number a))) bs) e).0)

both : (a b : Bool) → a ≡ true → b ≡ true → (a && b) ≡ true
both true b e f = f
both false b e f = absurd (cc)

module _ (r : Attempt → Bool) where
  all_if : (a b : Attempt) (bs : List Attempt) (q : Bool) → r a ≡ true → r b ≡ true → list_all r bs ≡ true → list_all r (put_by_stream a bs) ≡ true
      → list_all r (if q then b ∷ put_by_stream a bs else a ∷ b ∷ bs) ≡ true
  all_if a b bs true one here rest more = both (r b) (list_all r (put_by_stream a bs)) here more
  all_if a b bs false one here rest more = both (r a) (r b && list_all r bs) one (both (r b) (list_all r bs) here rest)

  all_put : (a : Attempt) (bs : List Attempt) → r a ≡ true → list_all r bs ≡ true → list_all r (put_by_stream a bs) ≡ true
  all_put a [] one e = both (r a) true one refl
  all_put a (b ∷ bs) one e =
      let parts : (r b ≡ true) × (list_all r bs ≡ true) = and_parts (r b) (list_all r bs) e in
      all_if a b bs (nat_lt (stream_number b) (stream_number a)) one parts.0 parts.1 (all_put a bs one parts.1)

  one_sorted : (q : Attempt → Bool) (x : Attempt) (xs : List Attempt) (b : Bool) → q x ≡ b → (q x ≡ true → r x ≡ true) → list_all r (by_stream (filter q xs)) ≡ true
      → list_all r (by_stream (cond b (x ∷ filter q xs) (filter q xs))) ≡ true
  one_sorted q x xs true e here rest = all_put x (by_stream (filter q xs)) (here e) rest
  one_sorted q x xs false e here rest = rest

  all_sorted : (q : Attempt → Bool) (xs : List Attempt) → ((i : ℕ) (x : Attempt) → slice_get xs i ≡ Some x → q x ≡ true → r x ≡ true)
      → list_all r (by_stream (filter q xs)) ≡ true
  all_sorted q [] each = refl
  all_sorted q (x ∷ xs) each = one_sorted q x xs (q x) refl (each zero x refl) (all_sorted q xs (λ i y at. each (suc i) y at))

module _ (q : Attempt → Bool) (a z : Attempt) (on : q a ≡ true) (off : q z ≡ false) where
  head_first : (xs : List Attempt) → ((i : ℕ) (x : Attempt) → slice_get xs i ≡ Some x → q x ≡ true → nat_lt (stream_number x) (stream_number a) ≡ false)
      → by_stream (filter q (a ∷ xs)) ≡ a ∷ by_stream (filter q (z ∷ xs))
  head_first xs later =
      ap (λ (b : Bool). by_stream (cond b (a ∷ filter q xs) (filter q xs))) on
      ∙ put_low a (by_stream (filter q xs))
      (all_sorted (λ (b : Attempt). not (nat_lt (stream_number b) (stream_number a))) q xs
      (λ i x at passes. not_false (nat_lt (stream_number x) (stream_number a)) (later i x at passes)))
      ∙ sym (ap (λ (b : Bool). a ∷ by_stream (cond b (z ∷ filter q xs) (filter q xs))) off)

  tail_first : (x : Attempt) (xs ys : List Attempt) (b : Bool) → q x ≡ b → (q x ≡ true → nat_lt (stream_number a) (stream_number x) ≡ true)
      → by_stream (filter q xs) ≡ a ∷ by_stream (filter q ys)
      → by_stream (cond b (x ∷ filter q xs) (filter q xs)) ≡ a ∷ by_stream (cond b (x ∷ filter q ys) (filter q ys))
  tail_first x xs ys true e above rest =
      ap (put_by_stream x) rest
      ∙ ap (λ (c : Bool). if c then a ∷ put_by_stream x (by_stream (filter q ys)) else x ∷ a ∷ by_stream (filter q ys)) (above e)
  tail_first x xs ys false e above rest = rest

  pub first_sorted : (xs : List Attempt) (i : ℕ) → slice_get xs i ≡ Some a
      → ((j : ℕ) (x : Attempt) → slice_get xs j ≡ Some x → q x ≡ true → nat_lt (stream_number x) (stream_number a) ≡ false)
      → ((j : ℕ) (x : Attempt) → nat_lt j i ≡ true → slice_get xs j ≡ Some x → q x ≡ true → nat_lt (stream_number a) (stream_number x) ≡ true)
      → by_stream (filter q xs) ≡ a ∷ by_stream (filter q (slice_set xs i z))
  first_sorted [] i at later above = absurd (cc)
  first_sorted (x ∷ xs) zero at later above =
      let same : x ≡ a = (cc) in
      ap (λ (y : Attempt). by_stream (filter q (y ∷ xs))) same ∙ head_first xs (λ j y here passes. later (suc j) y here passes)
  first_sorted (x ∷ xs) (suc i) at later above =
      tail_first x xs (slice_set xs i z) (q x) refl (above zero x (above_none i) refl)
      (first_sorted xs i at (λ j y here passes. later (suc j) y here passes) (λ j y below here passes. above (suc j) y (one_up j i below) here passes))

-- what fails a test before and after; and what passes it no more
kept_by : {X : Type 0} (p : X → Bool) (x : X) (xs ys : List X) (b : Bool) → filter p ys ≡ filter p xs → cond b (x ∷ filter p ys) (filter p ys) ≡ cond b (x ∷ filter p xs) (filter p xs)
kept_by p x xs ys true rest = ap (λ (l : List _). x ∷ l) rest
kept_by p x xs ys false rest = rest

pub stays_out : {X : Type 0} (p : X → Bool) (xs : List X) (i : ℕ) (a z : X) → slice_get xs i ≡ Some a → p a ≡ false → p z ≡ false → filter p (slice_set xs i z) ≡ filter p xs
stays_out p [] i a z at off out = absurd (cc)
stays_out p (x ∷ xs) zero a z at off out =
    let same : x ≡ a = (cc) in
    ap (λ (b : Bool). cond b (z ∷ filter p xs) (filter p xs)) out ∙ sym (ap (λ (b : Bool). cond b (x ∷ filter p xs) (filter p xs)) (ap p same ∙ off))
stays_out p (x ∷ xs) (suc i) a z at off out = kept_by p x xs (slice_set xs i z) (p x) (stays_out p xs i a z at off out)

less_by : {X : Type 0} (p : X → Bool) (x : X) (xs ys : List X) (b : Bool) → length (filter p xs) ≡ suc (length (filter p ys))
    → length (cond b (x ∷ filter p xs) (filter p xs)) ≡ suc (length (cond b (x ∷ filter p ys) (filter p ys)))
less_by p x xs ys true rest = ap suc rest
less_by p x xs ys false rest = rest

pub one_less : {X : Type 0} (p : X → Bool) (xs : List X) (i : ℕ) (a z : X) → slice_get xs i ≡ Some a → p a ≡ true → p z ≡ false
    → length (filter p xs) ≡ suc (length (filter p (slice_set xs i z)))
one_less p [] i a z at on off = absurd (cc)
one_less p (x ∷ xs) zero a z at on off =
    let same : x ≡ a = (cc) in
    ap (λ (b : Bool). length (cond b (x ∷ filter p xs) (filter p xs))) (ap p same ∙ on)
    ∙ sym (ap (λ (b : Bool). suc (length (cond b (z ∷ filter p xs) (filter p xs)))) off)
one_less p (x ∷ xs) (suc i) a z at on off = less_by p x xs (slice_set xs i z) (p x) (one_less p xs i a z at on off)
