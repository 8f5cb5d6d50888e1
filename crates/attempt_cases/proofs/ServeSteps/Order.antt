-- The first of pairs in rising order, and the foremost of attempts: none that passes stands before it.
use Rattle.std.proofs.Common.{◌≡◌, ◌&&◌, ◌||◌, ◌==◌, ◌∙◌, ◌∷◌, ap, arith, cond, refl, sym, subst, Bool, true, false, List, [], None, Option, Some, ℕ, zero, suc, filter, find, if◌then◌else◌, nat_lt, slice_get}
use Rattle.std.proofs.lemmas.Bool.{and_parts}
use Rattle.std.proofs.lemmas.Bool.Decides.{nat_tests}
use Rattle.std.specs.List.{list_all}
use Rattle.channel_actions.proofs.Links.Settings.Pairs.{same_is}
use Rattle.channel_actions.specs.Sets.{PairsAreRising}
use Rattle.channel_core.specs.Timing.{first_pair}
use Rattle.picker_gate.specs.Pairs.{has, comes_after, is_same, next_after}
use Rattle.session_actions.specs.Words.{earlier, foremost}

not_self : (q : ℕ × ℕ) → comes_after q q ≡ false
not_self q = grind (arith, nat_tests)

not_back : (p q : ℕ × ℕ) → comes_after p q ≡ true → comes_after q p ≡ false
not_back p q e = grind (arith, nat_tests)

-- of rising pairs
afterwards_by : (p q r : ℕ × ℕ) (pairs : List (ℕ × ℕ)) (b : Bool) → is_same q r ≡ b → comes_after p r ≡ true → (has pairs q ≡ true → comes_after p q ≡ true)
    → (b || has pairs q) ≡ true → comes_after p q ≡ true
afterwards_by p q r pairs true e first rest at = ap (comes_after p) (same_is q r e) ∙ first
afterwards_by p q r pairs false e first rest at = rest at

all_after : (p q : ℕ × ℕ) (pairs : List (ℕ × ℕ)) → list_all (comes_after p) pairs ≡ true → has pairs q ≡ true → comes_after p q ≡ true
all_after p q [] all there = absurd (let bad : false ≡ true = there in (cc))
all_after p q (r ∷ pairs) all there =
    let both = and_parts (comes_after p r) (list_all (comes_after p) pairs) all in
    afterwards_by p q r pairs (is_same q r) refl both.0 (all_after p q pairs both.1) there

-- the one that is found: none that passes stands before it
after_first : (p q : ℕ × ℕ) (pairs : List (ℕ × ℕ)) (c : Bool) → is_same q p ≡ c → list_all (comes_after p) pairs ≡ true → (c || has pairs q) ≡ true → comes_after q p ≡ false
after_first p q pairs true e all there = ap (λ (z : ℕ × ℕ). comes_after z p) (same_is q p e) ∙ not_self p
after_first p q pairs false e all there = not_back p q (all_after p q pairs all there)

later_one : (last p q : ℕ × ℕ) (pairs : List (ℕ × ℕ)) (c : Bool) → is_same q p ≡ c → comes_after last p ≡ false → comes_after last q ≡ true → (c || has pairs q) ≡ true
    → has pairs q ≡ true
later_one last p q pairs true e off on there =
    absurd (let bad : false ≡ true = sym off ∙ sym (ap (comes_after last) (same_is q p e)) ∙ on in (cc))
later_one last p q pairs false e off on there = there

least_by : (last r p q : ℕ × ℕ) (pairs : List (ℕ × ℕ)) (b : Bool) → comes_after last r ≡ b → list_all (comes_after r) pairs ≡ true
    → (find (comes_after last) pairs ≡ Some p → has pairs q ≡ true → comes_after q p ≡ false) → cond b (Some r) (find (comes_after last) pairs) ≡ Some p
    → comes_after last q ≡ true → has (r ∷ pairs) q ≡ true → comes_after q p ≡ false
least_by last r p q pairs true is all rest e on there =
    let same : r ≡ p = (cc) in ap (comes_after q) (sym same) ∙ after_first r q pairs (is_same q r) refl all there
least_by last r p q pairs false is all rest e on there = rest e (later_one last r q pairs (is_same q r) refl is on there)

pub least_found : (last p q : ℕ × ℕ) (pairs : List (ℕ × ℕ)) → PairsAreRising pairs → next_after pairs last ≡ Some p → comes_after last q ≡ true → has pairs q ≡ true
    → comes_after q p ≡ false
least_found last p q [] rising e on there = absurd (let bad : None ≡ Some p = e in (cc))
least_found last p q (r ∷ pairs) rising e on there =
    least_by last r p q pairs (comes_after last r) refl rising.0 (λ f at. least_found last p q pairs rising.1 f on at) e on there

-- of two
beyond_both : (q r t : ℕ × ℕ) → comes_after q r ≡ false → (nat_lt r.0 t.0 || ((r.0 == t.0) && nat_lt r.1 t.1)) ≡ false → comes_after q t ≡ false
beyond_both q r t e f = grind (arith, nat_tests)

before_both : (q r t : ℕ × ℕ) → comes_after q t ≡ false → (nat_lt r.0 t.0 || ((r.0 == t.0) && nat_lt r.1 t.1)) ≡ true → comes_after q r ≡ false
before_both q r t e f = grind (arith, nat_tests)

left_by : (q r t p : ℕ × ℕ) (b : Bool) → (nat_lt r.0 t.0 || ((r.0 == t.0) && nat_lt r.1 t.1)) ≡ b → comes_after q r ≡ false → (if b then Some r else Some t) ≡ Some p
    → comes_after q p ≡ false
left_by q r t p true less off e = let same : r ≡ p = (cc) in ap (comes_after q) (sym same) ∙ off
left_by q r t p false less off e = let same : t ≡ p = (cc) in ap (comes_after q) (sym same) ∙ beyond_both q r t off less

pub left_least : (q r p : ℕ × ℕ) (o : Option (ℕ × ℕ)) → comes_after q r ≡ false → first_pair (Some r) o ≡ Some p → comes_after q p ≡ false
left_least q r p None off e = let same : r ≡ p = (cc) in ap (comes_after q) (sym same) ∙ off
left_least q r p (Some t) off e = left_by q r t p (nat_lt r.0 t.0 || ((r.0 == t.0) && nat_lt r.1 t.1)) refl off e

right_by : (q r t p : ℕ × ℕ) (b : Bool) → (nat_lt r.0 t.0 || ((r.0 == t.0) && nat_lt r.1 t.1)) ≡ b → comes_after q t ≡ false → (if b then Some r else Some t) ≡ Some p
    → comes_after q p ≡ false
right_by q r t p true less off e = let same : r ≡ p = (cc) in ap (comes_after q) (sym same) ∙ before_both q r t off less
right_by q r t p false less off e = let same : t ≡ p = (cc) in ap (comes_after q) (sym same) ∙ off

pub right_least : (q t p : ℕ × ℕ) (o : Option (ℕ × ℕ)) → comes_after q t ≡ false → first_pair o (Some t) ≡ Some p → comes_after q p ≡ false
right_least q t p None off e = let same : t ≡ p = (cc) in ap (comes_after q) (sym same) ∙ off
right_least q t p (Some r) off e = right_by q r t p (nat_lt r.0 t.0 || ((r.0 == t.0) && nat_lt r.1 t.1)) refl off e

-- the foremost one of those that pass a test, in an order
pub record IsOrder {X : Type 0} (before : X → X → Bool) : Type 0 where
  pub self : (x : X) → before x x ≡ false
  pub back : (x y : X) → before x y ≡ true → before y x ≡ false
  pub through : (x y z : X) → before x y ≡ false → before y z ≡ false → before x z ≡ false

pub record IsForemost {X : Type 0} (before : X → X → Bool) (test : X → Bool) (xs : List X) (m : X) : Type 0 where
  pub index : ℕ
  pub there : slice_get xs index ≡ Some m
  pub passes : test m ≡ true
  pub least : (j : ℕ) (y : X) → slice_get xs j ≡ Some y → test y ≡ true → before y m ≡ false

none_by : {X : Type 0} (before : X → X → Bool) (x : X) (ys : List X) (b : Bool) → foremost before (cond b (x ∷ ys) ys) ≡ None → (b ≡ false) × (foremost before ys ≡ None)
none_by before x ys true e = absurd (let bad : Some (earlier before x (foremost before ys)) ≡ None = e in (cc))
none_by before x ys false e = (refl, e)

pub none_left : {X : Type 0} (before : X → X → Bool) (test : X → Bool) (xs : List X) (j : ℕ) (y : X) → foremost before (filter test xs) ≡ None → slice_get xs j ≡ Some y
    → test y ≡ true → ⊥
none_left before test [] j y e at passes = (let bad : None ≡ Some y = at in (cc))
none_left before test (x ∷ xs) zero y e at passes =
    let same : x ≡ y = (cc) in
    let off : test x ≡ false = (none_by before x (filter test xs) (test x) e).0 in
    let bad : true ≡ false = sym passes ∙ ap test (sym same) ∙ off in (cc)
none_left before test (x ∷ xs) (suc j) y e at passes = none_left before test xs j y (none_by before x (filter test xs) (test x) e).1 at passes

module _ {X : Type 0} (before : X → X → Bool) (order : IsOrder before) (test : X → Bool) where
  -- after one that does not pass
  skips : (x m : X) (xs : List X) → test x ≡ false → IsForemost before test xs m → IsForemost before test (x ∷ xs) m
  skips x m xs off f = record { index = suc f.index; there = f.there; passes = f.passes; least = least }
    where
      least : (j : ℕ) (y : X) → slice_get (x ∷ xs) j ≡ Some y → test y ≡ true → before y m ≡ false
      least zero y at passes =
          let same : x ≡ y = (cc) in absurd (let bad : true ≡ false = sym passes ∙ ap test (sym same) ∙ off in (cc))
      least (suc j) y at passes = f.least j y at passes

  -- the last one that passes
  alone : (x : X) (xs : List X) → test x ≡ true → foremost before (filter test xs) ≡ None → IsForemost before test (x ∷ xs) x
  alone x xs on none = record { index = zero; there = refl; passes = on; least = least }
    where
      least : (j : ℕ) (y : X) → slice_get (x ∷ xs) j ≡ Some y → test y ≡ true → before y x ≡ false
      least zero y at passes = let same : x ≡ y = (cc) in ap (λ (z : X). before z x) (sym same) ∙ order.self x
      least (suc j) y at passes = absurd (none_left before test xs j y none at passes)

  -- before the foremost of the others, or not
  wins : (x n : X) (xs : List X) → test x ≡ true → before n x ≡ false → IsForemost before test xs n → IsForemost before test (x ∷ xs) x
  wins x n xs on off f = record { index = zero; there = refl; passes = on; least = least }
    where
      least : (j : ℕ) (y : X) → slice_get (x ∷ xs) j ≡ Some y → test y ≡ true → before y x ≡ false
      least zero y at passes = let same : x ≡ y = (cc) in ap (λ (z : X). before z x) (sym same) ∙ order.self x
      least (suc j) y at passes = order.through y n x (f.least j y at passes) off

  loses : (x n : X) (xs : List X) → before n x ≡ true → IsForemost before test xs n → IsForemost before test (x ∷ xs) n
  loses x n xs on f = record { index = suc f.index; there = f.there; passes = f.passes; least = least }
    where
      least : (j : ℕ) (y : X) → slice_get (x ∷ xs) j ≡ Some y → test y ≡ true → before y n ≡ false
      least zero y at passes = let same : x ≡ y = (cc) in ap (λ (z : X). before z n) (sym same) ∙ order.back n x on
      least (suc j) y at passes = f.least j y at passes

  one_by : (x n m : X) (xs : List X) (c : Bool) → test x ≡ true → before n x ≡ c → IsForemost before test xs n → Some (if c then n else x) ≡ Some m
      → IsForemost before test (x ∷ xs) m
  one_by x n m xs true on e f is = let same : n ≡ m = (cc) in subst (IsForemost before test (x ∷ xs)) same (loses x n xs e f)
  one_by x n m xs false on e f is = let same : x ≡ m = (cc) in subst (IsForemost before test (x ∷ xs)) same (wins x n xs on e f)

  more_by : (x m : X) (xs : List X) (o : Option X) → foremost before (filter test xs) ≡ o → ((n : X) → o ≡ Some n → IsForemost before test xs n) → test x ≡ true
      → Some (earlier before x o) ≡ Some m → IsForemost before test (x ∷ xs) m
  more_by x m xs None none rest on is = let same : x ≡ m = (cc) in subst (IsForemost before test (x ∷ xs)) same (alone x xs on none)
  more_by x m xs (Some n) some rest on is = one_by x n m xs (before n x) on refl (rest n refl) is

  test_by : (x m : X) (xs : List X) (b : Bool) → test x ≡ b → ((n : X) → foremost before (filter test xs) ≡ Some n → IsForemost before test xs n)
      → foremost before (cond b (x ∷ filter test xs) (filter test xs)) ≡ Some m → IsForemost before test (x ∷ xs) m
  test_by x m xs true on rest is = more_by x m xs (foremost before (filter test xs)) refl rest on is
  test_by x m xs false off rest is = skips x m xs off (rest m is)

  pub foremost_is : (xs : List X) (m : X) → foremost before (filter test xs) ≡ Some m → IsForemost before test xs m
  foremost_is [] m e = absurd (let bad : None ≡ Some m = e in (cc))
  foremost_is (x ∷ xs) m e = test_by x m xs (test x) refl (foremost_is xs) e
