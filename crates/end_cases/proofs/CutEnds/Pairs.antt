-- The resets that are owed on a link, as pairs in the order of their streams: one more is put in its place, where no other one is of its stream.
use Rattle.std.proofs.Common.{◌≡◌, ◌&&◌, ◌==◌, ◌∷◌, not, ap, arith, refl, sym, ◌∙◌, Bool, true, false, List, [], Some, ℕ, zero, suc, cond, filter, if◌then◌else◌, map, nat_lt, slice_get, slice_set}
use Rattle.std.proofs.lemmas.Bool.{and_parts}
use Rattle.std.proofs.lemmas.Bool.Decides.{nat_tests}
use Rattle.std.specs.List.{list_all}
use Rattle.end_cases.specs.AttemptEnds.Ahead.{owed_reset}
use Rattle.link_actions.specs.ResetActions.Ahead.{put_reset}
use Rattle.link_actions.specs.Sees.{by_stream, put_by_stream}
use Rattle.session_actions.specs.Links.{stream_number}
use Rattle.session_actions.specs.declared.attempt.Attempt.{Attempt}
use Rattle.session_actions.specs.declared.seen.Seen.{Seen}

-- pairs, the first numbers in rising order
abbrev pub put_pair : ℕ × ℕ → List (ℕ × ℕ) → List (ℕ × ℕ)
put_pair x [] = x ∷ []
put_pair x (y ∷ ys) = if nat_lt y.0 x.0 then y ∷ put_pair x ys else x ∷ y ∷ ys

abbrev pub sorted : (Attempt → ℕ × ℕ) → List Attempt → List (ℕ × ℕ)
sorted f [] = []
sorted f (a ∷ others) = put_pair (f a) (sorted f others)

pub sorted_same : (f g : Attempt → ℕ × ℕ) → ((a : Attempt) → f a ≡ g a) → (xs : List Attempt) → sorted f xs ≡ sorted g xs
sorted_same f g same [] = refl
sorted_same f g same (a ∷ xs) = ap (λ (x : ℕ × ℕ). put_pair x (sorted f xs)) (same a) ∙ ap (put_pair (g a)) (sorted_same f g same xs)

-- the resets of attempts in the order of their streams are these pairs
module _ (s : Seen) where
  put_if : (a b : Attempt) (bs : List Attempt) (c : Bool) → map (owed_reset s) (put_by_stream a bs) ≡ put_pair (owed_reset s a) (map (owed_reset s) bs)
      → map (owed_reset s) (if c then b ∷ put_by_stream a bs else a ∷ b ∷ bs)
      ≡ (if c then owed_reset s b ∷ put_pair (owed_reset s a) (map (owed_reset s) bs) else owed_reset s a ∷ owed_reset s b ∷ map (owed_reset s) bs)
  put_if a b bs true rest = ap (λ (l : List (ℕ × ℕ)). owed_reset s b ∷ l) rest
  put_if a b bs false rest = refl

  put_is : (a : Attempt) (bs : List Attempt) → map (owed_reset s) (put_by_stream a bs) ≡ put_pair (owed_reset s a) (map (owed_reset s) bs)
  put_is a [] = refl
  put_is a (b ∷ bs) = put_if a b bs (nat_lt (stream_number b) (stream_number a)) (put_is a bs)

  pub owed_sorted : (xs : List Attempt) → map (owed_reset s) (by_stream xs) ≡ sorted (owed_reset s) xs
  owed_sorted [] = refl
  owed_sorted (a ∷ xs) = put_is a (by_stream xs) ∙ ap (put_pair (owed_reset s a)) (owed_sorted xs)

-- numbers
turned : (m n : ℕ) → (m == n) ≡ false → nat_lt m n ≡ not (nat_lt n m)
turned m n e = grind (arith, nat_tests, e)

between : (x y z : ℕ) → nat_lt z x ≡ false → nat_lt z y ≡ true → nat_lt x y ≡ true
between x y z e f = grind (arith, nat_tests, e, f)

below : (x y z : ℕ) → nat_lt z x ≡ true → nat_lt z y ≡ false → nat_lt y x ≡ true
below x y z e f = grind (arith, nat_tests, e, f)

-- two are put in
two_first : (x y : ℕ × ℕ) (zs : List (ℕ × ℕ)) (b c : Bool) → b ≡ not c
    → (if b then y ∷ (x ∷ zs) else x ∷ y ∷ zs) ≡ (if c then x ∷ (y ∷ zs) else y ∷ x ∷ zs)
two_first x y zs true false e = refl
two_first x y zs false true e = refl
two_first x y zs true true e = absurd (cc)
two_first x y zs false false e = absurd (cc)

put_by : (x y z : ℕ × ℕ) (zs : List (ℕ × ℕ)) (b c : Bool) → nat_lt z.0 x.0 ≡ b → nat_lt z.0 y.0 ≡ c → nat_lt y.0 x.0 ≡ not (nat_lt x.0 y.0)
    → put_pair x (put_pair y zs) ≡ put_pair y (put_pair x zs)
    → put_pair x (if c then z ∷ put_pair y zs else y ∷ z ∷ zs) ≡ put_pair y (if b then z ∷ put_pair x zs else x ∷ z ∷ zs)
put_by x y z zs true true e f way rest =
    ap (λ (q : Bool). if q then z ∷ put_pair x (put_pair y zs) else x ∷ z ∷ put_pair y zs) e ∙ ap (λ (l : List (ℕ × ℕ)). z ∷ l) rest
    ∙ sym (ap (λ (q : Bool). if q then z ∷ put_pair y (put_pair x zs) else y ∷ z ∷ put_pair x zs) f)
put_by x y z zs false true e f way rest =
    ap (λ (q : Bool). if q then z ∷ put_pair x (put_pair y zs) else x ∷ z ∷ put_pair y zs) e
    ∙ sym (ap (λ (q : Bool). if q then x ∷ put_pair y (z ∷ zs) else y ∷ x ∷ z ∷ zs) (between x.0 y.0 z.0 e f)
    ∙ ap (λ (q : Bool). x ∷ (if q then z ∷ put_pair y zs else y ∷ z ∷ zs)) f)
put_by x y z zs true false e f way rest =
    ap (λ (q : Bool). if q then y ∷ put_pair x (z ∷ zs) else x ∷ y ∷ z ∷ zs) (below x.0 y.0 z.0 e f)
    ∙ ap (λ (q : Bool). y ∷ (if q then z ∷ put_pair x zs else x ∷ z ∷ zs)) e
    ∙ sym (ap (λ (q : Bool). if q then z ∷ put_pair y (put_pair x zs) else y ∷ z ∷ put_pair x zs) f)
put_by x y z zs false false e f way rest =
    ap (λ (q : Bool). if nat_lt y.0 x.0 then y ∷ (if q then z ∷ put_pair x zs else x ∷ z ∷ zs) else x ∷ y ∷ z ∷ zs) e
    ∙ two_first x y (z ∷ zs) (nat_lt y.0 x.0) (nat_lt x.0 y.0) way
    ∙ sym (ap (λ (q : Bool). if nat_lt x.0 y.0 then x ∷ (if q then z ∷ put_pair y zs else y ∷ z ∷ zs) else y ∷ x ∷ z ∷ zs) f)

put_both : (x y : ℕ × ℕ) → (y.0 == x.0) ≡ false → (zs : List (ℕ × ℕ)) → put_pair x (put_pair y zs) ≡ put_pair y (put_pair x zs)
put_both x y off [] = two_first x y [] (nat_lt y.0 x.0) (nat_lt x.0 y.0) (turned y.0 x.0 off)
put_both x y off (z ∷ zs) = put_by x y z zs (nat_lt z.0 x.0) (nat_lt z.0 y.0) refl refl (turned y.0 x.0 off) (put_both x y off zs)

-- among others of other streams it stands where a link puts it
abbrev pub is_away : ℕ → ℕ × ℕ → Bool
is_away n y = not (y.0 == n)

not_so : (b : Bool) → not b ≡ true → b ≡ false
not_so true e = absurd (cc)
not_so false e = refl

reset_by : (n number : ℕ) (y : ℕ × ℕ) (ys : List (ℕ × ℕ)) (b c : Bool) → b ≡ not c → put_pair (n, number) ys ≡ put_reset n number ys
    → (if b then y ∷ put_pair (n, number) ys else (n, number) ∷ y ∷ ys) ≡ (if c then (n, number) ∷ y ∷ ys else y ∷ put_reset n number ys)
reset_by n number y ys true false e rest = ap (λ (l : List (ℕ × ℕ)). y ∷ l) rest
reset_by n number y ys false true e rest = refl
reset_by n number y ys true true e rest = absurd (cc)
reset_by n number y ys false false e rest = absurd (cc)

pub put_is_reset : (n number : ℕ) (ys : List (ℕ × ℕ)) → list_all (is_away n) ys ≡ true → put_pair (n, number) ys ≡ put_reset n number ys
put_is_reset n number [] e = refl
put_is_reset n number (y ∷ ys) e =
    let parts : (is_away n y ≡ true) × (list_all (is_away n) ys ≡ true) = and_parts (is_away n y) (list_all (is_away n) ys) e in
    reset_by n number y ys (nat_lt y.0 n) (nat_lt n y.0) (turned y.0 n (not_so (y.0 == n) parts.0)) (put_is_reset n number ys parts.1)

-- what is so of each of them
both : (a b : Bool) → a ≡ true → b ≡ true → (a && b) ≡ true
both true b e f = f
both false b e f = absurd (cc)

all_if : (r : ℕ × ℕ → Bool) (x y : ℕ × ℕ) (ys : List (ℕ × ℕ)) (q : Bool) → r x ≡ true → r y ≡ true → list_all r ys ≡ true → list_all r (put_pair x ys) ≡ true
    → list_all r (if q then y ∷ put_pair x ys else x ∷ y ∷ ys) ≡ true
all_if r x y ys true one here rest more = both (r y) (list_all r (put_pair x ys)) here more
all_if r x y ys false one here rest more = both (r x) (r y && list_all r ys) one (both (r y) (list_all r ys) here rest)

all_put : (r : ℕ × ℕ → Bool) (x : ℕ × ℕ) (ys : List (ℕ × ℕ)) → r x ≡ true → list_all r ys ≡ true → list_all r (put_pair x ys) ≡ true
all_put r x [] one e = both (r x) true one refl
all_put r x (y ∷ ys) one e =
    let parts : (r y ≡ true) × (list_all r ys ≡ true) = and_parts (r y) (list_all r ys) e in
    all_if r x y ys (nat_lt y.0 x.0) one parts.0 parts.1 (all_put r x ys one parts.1)

module _ (f : Attempt → ℕ × ℕ) (p : Attempt → Bool) where
  one_away : (r : ℕ × ℕ → Bool) (x : Attempt) (xs : List Attempt) (b : Bool) → p x ≡ b → (p x ≡ true → r (f x) ≡ true) → list_all r (sorted f (filter p xs)) ≡ true
      → list_all r (sorted f (cond b (x ∷ filter p xs) (filter p xs))) ≡ true
  one_away r x xs true e here rest = all_put r (f x) (sorted f (filter p xs)) (here e) rest
  one_away r x xs false e here rest = rest

  pub all_away : (r : ℕ × ℕ → Bool) (xs : List Attempt) → ((i : ℕ) (x : Attempt) → slice_get xs i ≡ Some x → p x ≡ true → r (f x) ≡ true)
      → list_all r (sorted f (filter p xs)) ≡ true
  all_away r [] each = refl
  all_away r (x ∷ xs) each = one_away r x xs (p x) refl (each zero x refl) (all_away r xs (λ i y at. each (suc i) y at))

  -- one of a list comes to pass a test
  gain_on : (x z : Attempt) (xs ys : List Attempt) (b : Bool) → p x ≡ b → (p x ≡ true → ((f z).0 == (f x).0) ≡ false)
      → sorted f (filter p ys) ≡ put_pair (f z) (sorted f (filter p xs))
      → sorted f (cond b (x ∷ filter p ys) (filter p ys)) ≡ put_pair (f z) (sorted f (cond b (x ∷ filter p xs) (filter p xs)))
  gain_on x z xs ys true e off rest = ap (put_pair (f x)) rest ∙ put_both (f x) (f z) (off e) (sorted f (filter p xs))
  gain_on x z xs ys false e off rest = rest

  pub gains : (xs : List Attempt) (i : ℕ) (a z : Attempt) → slice_get xs i ≡ Some a → p a ≡ false → p z ≡ true
      → ((j : ℕ) (x : Attempt) → slice_get xs j ≡ Some x → p x ≡ true → ((f z).0 == (f x).0) ≡ false)
      → sorted f (filter p (slice_set xs i z)) ≡ put_pair (f z) (sorted f (filter p xs))
  gains [] i a z at out on off = absurd (cc)
  gains (x ∷ xs) zero a z at out on off =
      let same : x ≡ a = (cc) in
      ap (λ (b : Bool). sorted f (cond b (z ∷ filter p xs) (filter p xs))) on
      ∙ sym (ap (λ (b : Bool). put_pair (f z) (sorted f (cond b (x ∷ filter p xs) (filter p xs)))) (ap p same ∙ out))
  gains (x ∷ xs) (suc i) a z at out on off =
      gain_on x z xs (slice_set xs i z) (p x) refl (off zero x refl) (gains xs i a z at out on (λ j y here passes. off (suc j) y here passes))
