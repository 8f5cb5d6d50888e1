-- Streams in rising order, put in one by one: which comes first or later does not matter.
use Rattle.std.proofs.Common.{◌≡◌, ◌&&◌, ◌||◌, ◌==◌, ◌∷◌, ap, arith, refl, subst, sym, ◌∙◌, Bool, true, false, List, [], None, Option, Some, ℕ, zero, suc, cond, filter, if◌then◌else◌, length, nat_le, nat_lt, slice_get, slice_set}
use Rattle.std.specs.List.{list_all}
use Rattle.std.proofs.lemmas.Bool.{and_parts}
use Rattle.std.proofs.lemmas.Bool.Decides.{nat_tests}
use Rattle.session_actions.specs.Links.{is_stream_before, link_number, stream_number}
use Rattle.session_actions.specs.Words.{earlier, foremost}

abbrev pub put : ℕ → List ℕ → List ℕ
put n [] = n ∷ []
put n (m ∷ ms) = if nat_lt n m then n ∷ m ∷ ms else m ∷ put n ms

-- of things that have one
abbrev pub sorted_by : {X : Type 0} → (X → ℕ) → List X → List ℕ
sorted_by f [] = []
sorted_by f (a ∷ others) = put (f a) (sorted_by f others)

-- two are put in
less_by : (n m x : ℕ) → nat_lt n x ≡ true → nat_lt m x ≡ false → nat_lt m n ≡ false
less_by n m x e f = grind (arith, nat_tests, e, f)

not_more : (n m : ℕ) → nat_lt n m ≡ true → nat_lt m n ≡ false
not_more n m e = grind (arith, nat_tests, e)

same_by : (n m : ℕ) → nat_lt n m ≡ false → nat_lt m n ≡ false → n ≡ m
same_by n m e f = grind (arith, nat_tests, e, f)

if_yes : {X : Type 0} (b : Bool) (x y : X) → b ≡ true → (if b then x else y) ≡ x
if_yes true x y e = refl
if_yes false x y e = absurd (cc)

if_no : {X : Type 0} (b : Bool) (x y : X) → b ≡ false → (if b then x else y) ≡ y
if_no false x y e = refl
if_no true x y e = absurd (cc)

-- both before all others
both_first : (n m : ℕ) (xs : List ℕ) (b c : Bool) → nat_lt n m ≡ b → nat_lt m n ≡ c
    → (if b then n ∷ m ∷ xs else m ∷ (n ∷ xs)) ≡ (if c then m ∷ n ∷ xs else n ∷ (m ∷ xs))
both_first n m xs true true e f = absurd (let bad : true ≡ false = sym f ∙ not_more n m e in (cc))
both_first n m xs true false e f = refl
both_first n m xs false true e f = refl
both_first n m xs false false e f = let same : n ≡ m = same_by n m e f in ap (λ (k : ℕ). m ∷ (k ∷ xs)) same ∙ ap (λ (k : ℕ). k ∷ (m ∷ xs)) (sym same)

put_by : (n m x : ℕ) (xs : List ℕ) (b c : Bool) → nat_lt n x ≡ b → nat_lt m x ≡ c → put n (put m xs) ≡ put m (put n xs)
    → put n (if c then m ∷ x ∷ xs else x ∷ put m xs) ≡ put m (if b then n ∷ x ∷ xs else x ∷ put n xs)
put_by n m x xs true true e f rest =
    ap (λ (b : Bool). if nat_lt n m then n ∷ m ∷ x ∷ xs else m ∷ (if b then n ∷ x ∷ xs else x ∷ put n xs)) e
    ∙ both_first n m (x ∷ xs) (nat_lt n m) (nat_lt m n) refl refl
    ∙ sym (ap (λ (b : Bool). if nat_lt m n then m ∷ n ∷ x ∷ xs else n ∷ (if b then m ∷ x ∷ xs else x ∷ put m xs)) f)
put_by n m x xs true false e f rest =
    if_yes (nat_lt n x) (n ∷ x ∷ put m xs) (x ∷ put n (put m xs)) e
    ∙ sym (if_no (nat_lt m n) (m ∷ n ∷ x ∷ xs) (n ∷ (if nat_lt m x then m ∷ x ∷ xs else x ∷ put m xs)) (less_by n m x e f)
    ∙ ap (λ (b : Bool). n ∷ (if b then m ∷ x ∷ xs else x ∷ put m xs)) f)
put_by n m x xs false true e f rest =
    if_no (nat_lt n m) (n ∷ m ∷ x ∷ xs) (m ∷ (if nat_lt n x then n ∷ x ∷ xs else x ∷ put n xs)) (less_by m n x f e)
    ∙ ap (λ (b : Bool). m ∷ (if b then n ∷ x ∷ xs else x ∷ put n xs)) e
    ∙ sym (if_yes (nat_lt m x) (m ∷ x ∷ put n xs) (x ∷ put m (put n xs)) f)
put_by n m x xs false false e f rest =
    if_no (nat_lt n x) (n ∷ x ∷ put m xs) (x ∷ put n (put m xs)) e ∙ ap (λ (l : List ℕ). x ∷ l) rest
    ∙ sym (if_no (nat_lt m x) (m ∷ x ∷ put n xs) (x ∷ put m (put n xs)) f)

pub put_both : (n m : ℕ) (xs : List ℕ) → put n (put m xs) ≡ put m (put n xs)
put_both n m [] = both_first n m [] (nat_lt n m) (nat_lt m n) refl refl
put_both n m (x ∷ xs) = put_by n m x xs (nat_lt n x) (nat_lt m x) refl refl (put_both n m xs)

pub put_long : (n : ℕ) (xs : List ℕ) → length (put n xs) ≡ suc (length xs)
put_long n [] = refl
put_long n (x ∷ xs) = long_by n x xs (nat_lt n x) (put_long n xs)
  where
    long_by : (n x : ℕ) (xs : List ℕ) (b : Bool) → length (put n xs) ≡ suc (length xs) → length (if b then n ∷ x ∷ xs else x ∷ put n xs) ≡ suc (suc (length xs))
    long_by n x xs true rest = refl
    long_by n x xs false rest = ap suc rest

-- the lowest stands first
low_by : (n x : ℕ) → nat_le n x ≡ true → nat_lt n x ≡ false → x ≡ n
low_by n x e f = grind (arith, nat_tests, e, f)

first_by : (n x : ℕ) (xs : List ℕ) (b : Bool) → nat_lt n x ≡ b → nat_le n x ≡ true → put n xs ≡ n ∷ xs → (if b then n ∷ x ∷ xs else x ∷ put n xs) ≡ n ∷ x ∷ xs
first_by n x xs true e low rest = refl
first_by n x xs false e low rest =
    let same : x ≡ n = low_by n x low e in
    ap (λ (l : List ℕ). x ∷ l) rest ∙ ap (λ (k : ℕ). k ∷ n ∷ xs) same ∙ ap (λ (k : ℕ). n ∷ k ∷ xs) (sym same)

pub put_first : (n : ℕ) (xs : List ℕ) → list_all (nat_le n) xs ≡ true → put n xs ≡ n ∷ xs
put_first n [] e = refl
put_first n (x ∷ xs) e =
    let parts : (nat_le n x ≡ true) × (list_all (nat_le n) xs ≡ true) = and_parts (nat_le n x) (list_all (nat_le n) xs) e in
    first_by n x xs (nat_lt n x) refl parts.0 (put_first n xs parts.1)

both_yes : (a b : Bool) → a ≡ true → b ≡ true → (a && b) ≡ true
both_yes true b e f = f
both_yes false b e f = absurd (cc)

low_if : (n m x : ℕ) (xs : List ℕ) (b : Bool) → nat_le n m ≡ true → nat_le n x ≡ true → list_all (nat_le n) xs ≡ true → list_all (nat_le n) (put m xs) ≡ true
    → list_all (nat_le n) (if b then m ∷ x ∷ xs else x ∷ put m xs) ≡ true
low_if n m x xs true low here rest more =
    both_yes (nat_le n m) (nat_le n x && list_all (nat_le n) xs) low (both_yes (nat_le n x) (list_all (nat_le n) xs) here rest)
low_if n m x xs false low here rest more = both_yes (nat_le n x) (list_all (nat_le n) (put m xs)) here more

pub put_low : (n m : ℕ) (xs : List ℕ) → nat_le n m ≡ true → list_all (nat_le n) xs ≡ true → list_all (nat_le n) (put m xs) ≡ true
put_low n m [] low e = both_yes (nat_le n m) true low refl
put_low n m (x ∷ xs) low e =
    let parts : (nat_le n x ≡ true) × (list_all (nat_le n) xs ≡ true) = and_parts (nat_le n x) (list_all (nat_le n) xs) e in
    low_if n m x xs (nat_lt m x) low parts.0 parts.1 (put_low n m xs low parts.1)

-- and what is left
low_left : (n m x : ℕ) (xs : List ℕ) (b : Bool) → (list_all (nat_le n) (put m xs) ≡ true → list_all (nat_le n) xs ≡ true)
    → list_all (nat_le n) (if b then m ∷ x ∷ xs else x ∷ put m xs) ≡ true → list_all (nat_le n) (x ∷ xs) ≡ true
low_left n m x xs true rest e = (and_parts (nat_le n m) (nat_le n x && list_all (nat_le n) xs) e).1
low_left n m x xs false rest e =
    let parts : (nat_le n x ≡ true) × (list_all (nat_le n) (put m xs) ≡ true) = and_parts (nat_le n x) (list_all (nat_le n) (put m xs)) e in
    both_yes (nat_le n x) (list_all (nat_le n) xs) parts.0 (rest parts.1)

pub put_left : (n m : ℕ) (xs : List ℕ) → list_all (nat_le n) (put m xs) ≡ true → list_all (nat_le n) xs ≡ true
put_left n m [] e = refl
put_left n m (x ∷ xs) e = low_left n m x xs (nat_lt m x) (put_left n m xs) e

-- one of a list comes to pass a test, or passes it no more
gain_here : {X : Type 0} (f : X → ℕ) (p : X → Bool) (x a z : X) (xs : List X) → x ≡ a → p a ≡ false → p z ≡ true
    → sorted_by f (filter p (z ∷ xs)) ≡ put (f z) (sorted_by f (filter p (x ∷ xs)))
gain_here f p x a z xs same off on =
    ap (λ (b : Bool). sorted_by f (cond b (z ∷ filter p xs) (filter p xs))) on
    ∙ sym (ap (λ (b : Bool). put (f z) (sorted_by f (cond b (x ∷ filter p xs) (filter p xs)))) (ap p same ∙ off))

gain_on : {X : Type 0} (f : X → ℕ) (p : X → Bool) (x z : X) (xs ys : List X) (b : Bool) → sorted_by f (filter p ys) ≡ put (f z) (sorted_by f (filter p xs))
    → sorted_by f (cond b (x ∷ filter p ys) (filter p ys)) ≡ put (f z) (sorted_by f (cond b (x ∷ filter p xs) (filter p xs)))
gain_on f p x z xs ys true rest = ap (put (f x)) rest ∙ put_both (f x) (f z) (sorted_by f (filter p xs))
gain_on f p x z xs ys false rest = rest

pub gains : {X : Type 0} (f : X → ℕ) (p : X → Bool) (xs : List X) (i : ℕ) (a z : X) → slice_get xs i ≡ Some a → p a ≡ false → p z ≡ true
    → sorted_by f (filter p (slice_set xs i z)) ≡ put (f z) (sorted_by f (filter p xs))
gains f p [] i a z e off on = absurd (cc)
gains f p (x ∷ xs) zero a z e off on = let same : x ≡ a = (cc) in gain_here f p x a z xs same off on
gains f p (x ∷ xs) (suc i) a z e off on = gain_on f p x z xs (slice_set xs i z) (p x) (gains f p xs i a z e off on)

pub set_get : {X : Type 0} (xs : List X) (i : ℕ) (a z : X) → slice_get xs i ≡ Some a → slice_get (slice_set xs i z) i ≡ Some z
set_get [] i a z e = absurd (cc)
set_get (x ∷ xs) zero a z e = refl
set_get (x ∷ xs) (suc i) a z e = set_get xs i a z e

pub set_back : {X : Type 0} (xs : List X) (i : ℕ) (a z : X) → slice_get xs i ≡ Some a → slice_set (slice_set xs i z) i a ≡ xs
set_back [] i a z e = absurd (cc)
set_back (x ∷ xs) zero a z e = let same : a ≡ x = (cc) in ap (λ (y : _). y ∷ xs) same
set_back (x ∷ xs) (suc i) a z e = ap (λ (l : List _). x ∷ l) (set_back xs i a z e)

pub loses : {X : Type 0} (f : X → ℕ) (p : X → Bool) (xs : List X) (i : ℕ) (a z : X) → slice_get xs i ≡ Some a → p a ≡ true → p z ≡ false
    → sorted_by f (filter p xs) ≡ put (f a) (sorted_by f (filter p (slice_set xs i z)))
loses f p xs i a z e on off =
    ap (λ (l : List _). sorted_by f (filter p l)) (sym (set_back xs i a z e)) ∙ gains f p (slice_set xs i z) i z a (set_get xs i a z e) off on

-- all that pass a test are no lower
pub sorted_low : {X : Type 0} (f : X → ℕ) (p : X → Bool) (n : ℕ) (xs : List X) → ((i : ℕ) (x : X) → slice_get xs i ≡ Some x → p x ≡ true → nat_le n (f x) ≡ true)
    → list_all (nat_le n) (sorted_by f (filter p xs)) ≡ true
sorted_low f p n [] low = refl
sorted_low f p n (x ∷ xs) low = low_one f p n x xs (p x) refl (low zero x refl) (sorted_low f p n xs (λ i y e. low (suc i) y e))
  where
    low_one : {X : Type 0} (f : X → ℕ) (p : X → Bool) (n : ℕ) (x : X) (xs : List X) (b : Bool) → p x ≡ b → (p x ≡ true → nat_le n (f x) ≡ true)
        → list_all (nat_le n) (sorted_by f (filter p xs)) ≡ true → list_all (nat_le n) (sorted_by f (cond b (x ∷ filter p xs) (filter p xs))) ≡ true
    low_one f p n x xs true e low rest = put_low n (f x) (sorted_by f (filter p xs)) (low e) rest
    low_one f p n x xs false e low rest = rest

-- nothing passes
pub none_sorted : {X : Type 0} (f : X → ℕ) (p : X → Bool) (xs : List X) → ((i : ℕ) (x : X) → slice_get xs i ≡ Some x → p x ≡ false) → sorted_by f (filter p xs) ≡ []
none_sorted f p [] none = refl
none_sorted f p (x ∷ xs) none =
    ap (λ (b : Bool). sorted_by f (cond b (x ∷ filter p xs) (filter p xs))) (none zero x refl) ∙ none_sorted f p xs (λ i y e. none (suc i) y e)

-- what fails a test before and after
pub stays_out : {X : Type 0} (f : X → ℕ) (p : X → Bool) (xs : List X) (i : ℕ) (a z : X) → slice_get xs i ≡ Some a → p a ≡ false → p z ≡ false
    → sorted_by f (filter p (slice_set xs i z)) ≡ sorted_by f (filter p xs)
stays_out f p [] i a z e off out = absurd (cc)
stays_out f p (x ∷ xs) zero a z e off out =
    let same : x ≡ a = (cc) in
    ap (λ (b : Bool). sorted_by f (cond b (z ∷ filter p xs) (filter p xs))) out
    ∙ sym (ap (λ (b : Bool). sorted_by f (cond b (x ∷ filter p xs) (filter p xs))) (ap p same ∙ off))
stays_out f p (x ∷ xs) (suc i) a z e off out = out_on f x (filter p xs) (filter p (slice_set xs i z)) (p x) (stays_out f p xs i a z e off out)
  where
    out_on : {X : Type 0} (f : X → ℕ) (x : X) (xs ys : List X) (b : Bool) → sorted_by f ys ≡ sorted_by f xs → sorted_by f (cond b (x ∷ ys) ys) ≡ sorted_by f (cond b (x ∷ xs) xs)
    out_on f x xs ys true rest = ap (put (f x)) rest
    out_on f x xs ys false rest = rest

-- the foremost one of a list, by an order
pub record IsForemost {X : Type 0} (before : X → X → Bool) (p : X → Bool) (xs : List X) (a : X) : Type 0 where
  pub index : ℕ
  pub there : slice_get xs index ≡ Some a
  pub passes : p a ≡ true
  pub first : (i : ℕ) (x : X) → slice_get xs i ≡ Some x → p x ≡ true → before x a ≡ false

-- an order
pub record IsOrder {X : Type 0} (before : X → X → Bool) : Type 0 where
  pub not_own : (x : X) → before x x ≡ false
  pub one_way : (x y : X) → before y x ≡ true → before x y ≡ false
  pub carries : (x y z : X) → before y x ≡ false → before z y ≡ false → before z x ≡ false

module _ {X : Type 0} (before : X → X → Bool) (order : IsOrder before) (p : X → Bool) where
  passes_none : (x : X) (xs : List X) (b : Bool) → p x ≡ b → (foremost before (filter p xs) ≡ None → (i : ℕ) (y : X) → slice_get xs i ≡ Some y → p y ≡ false)
      → foremost before (cond b (x ∷ filter p xs) (filter p xs)) ≡ None → (i : ℕ) (y : X) → slice_get (x ∷ xs) i ≡ Some y → p y ≡ false
  passes_none x xs true e rest none i y at = absurd (cc)
  passes_none x xs false e rest none zero y at = let same : y ≡ x = (cc) in ap p same ∙ e
  passes_none x xs false e rest none (suc i) y at = rest none i y at

  pub no_foremost : (xs : List X) → foremost before (filter p xs) ≡ None → (i : ℕ) (x : X) → slice_get xs i ≡ Some x → p x ≡ false
  no_foremost [] none i x at = absurd (cc)
  no_foremost (x ∷ xs) none i y at = passes_none x xs (p x) refl (no_foremost xs) none i y at

  -- the first one of all
  head_first : (x : X) (xs : List X) → ((i : ℕ) (y : X) → slice_get xs i ≡ Some y → p y ≡ true → before y x ≡ false) → p x ≡ true
      → (i : ℕ) (y : X) → slice_get (x ∷ xs) i ≡ Some y → p y ≡ true → before y x ≡ false
  head_first x xs later on zero y at passes = let same : y ≡ x = (cc) in ap (λ (z : X). before z x) same ∙ order.not_own x
  head_first x xs later on (suc i) y at passes = later i y at passes

  tail_first : (x y : X) (xs : List X) → before x y ≡ false → ((i : ℕ) (z : X) → slice_get xs i ≡ Some z → p z ≡ true → before z y ≡ false)
      → (i : ℕ) (z : X) → slice_get (x ∷ xs) i ≡ Some z → p z ≡ true → before z y ≡ false
  tail_first x y xs here later zero z at passes = let same : z ≡ x = (cc) in ap (λ (w : X). before w y) same ∙ here
  tail_first x y xs here later (suc i) z at passes = later i z at passes

  lone : (x a : X) (xs : List X) → p x ≡ true → ((i : ℕ) (y : X) → slice_get xs i ≡ Some y → p y ≡ false) → x ≡ a → IsForemost before p (x ∷ xs) a
  lone x a xs on none same =
      subst (IsForemost before p (x ∷ xs)) same (record {
        index = 0;
        there = refl;
        passes = on;
        first = head_first x xs (λ i y at passes. absurd (let bad : true ≡ false = sym passes ∙ none i y at in (cc))) on;
      })

  earlier_by : (x y a : X) (xs : List X) (b : Bool) → before y x ≡ b → p x ≡ true → IsForemost before p xs y → (if b then y else x) ≡ a → IsForemost before p (x ∷ xs) a
  earlier_by x y a xs true e on f same =
      subst (IsForemost before p (x ∷ xs)) same (record { index = suc f.index; there = f.there; passes = f.passes; first = tail_first x y xs (order.one_way x y e) f.first })
  earlier_by x y a xs false e on f same =
      subst (IsForemost before p (x ∷ xs)) same
      (record { index = 0; there = refl; passes = on; first = head_first x xs (λ i z at passes. order.carries x y z e (f.first i z at passes)) on })

  among : (x a : X) (xs : List X) (o : Option X) → foremost before (filter p xs) ≡ o → p x ≡ true → ((y : X) → o ≡ Some y → IsForemost before p xs y)
      → Some (earlier before x o) ≡ Some a → IsForemost before p (x ∷ xs) a
  among x a xs None e on rest is = lone x a xs on (no_foremost xs e) (cc)
  among x a xs (Some y) e on rest is = earlier_by x y a xs (before y x) refl on (rest y refl) (cc)

  foremost_by : (x a : X) (xs : List X) (b : Bool) → p x ≡ b → ((y : X) → foremost before (filter p xs) ≡ Some y → IsForemost before p xs y)
      → foremost before (cond b (x ∷ filter p xs) (filter p xs)) ≡ Some a → IsForemost before p (x ∷ xs) a
  foremost_by x a xs true e rest is = among x a xs (foremost before (filter p xs)) refl e rest is
  foremost_by x a xs false e rest is =
      let f : IsForemost before p xs a = rest a is in
      record {
        index = suc f.index;
        there = f.there;
        passes = f.passes;
        first = tail_none x a xs e f.first;
      }
    where
      tail_none : (x a : X) (xs : List X) → p x ≡ false → ((i : ℕ) (z : X) → slice_get xs i ≡ Some z → p z ≡ true → before z a ≡ false)
          → (i : ℕ) (z : X) → slice_get (x ∷ xs) i ≡ Some z → p z ≡ true → before z a ≡ false
      tail_none x a xs off later zero z at passes = absurd (let same : z ≡ x = (cc) in let bad : true ≡ false = sym passes ∙ ap p same ∙ off in absurd (cc))
      tail_none x a xs off later (suc i) z at passes = later i z at passes

  pub is_foremost : (xs : List X) (a : X) → foremost before (filter p xs) ≡ Some a → IsForemost before p xs a
  is_foremost [] a is = absurd (cc)
  is_foremost (x ∷ xs) a is = foremost_by x a xs (p x) refl (is_foremost xs) is

-- links and streams are an order
not_own : (l s : ℕ) → (nat_lt l l || ((l == l) && nat_lt s s)) ≡ false
not_own l s = grind (arith, nat_tests)

one_way : (k s l t : ℕ) → (nat_lt l k || ((l == k) && nat_lt t s)) ≡ true → (nat_lt k l || ((k == l) && nat_lt s t)) ≡ false
one_way k s l t e = grind (arith, nat_tests, e)

carries : (k s l t m u : ℕ) → (nat_lt l k || ((l == k) && nat_lt t s)) ≡ false → (nat_lt m l || ((m == l) && nat_lt u t)) ≡ false
    → (nat_lt m k || ((m == k) && nat_lt u s)) ≡ false
carries k s l t m u e f = grind (arith, nat_tests, e, f)

pub by_stream_order : IsOrder is_stream_before
by_stream_order = record {
  not_own = λ a. not_own (link_number a) (stream_number a);
  one_way = λ a b e. one_way (link_number a) (stream_number a) (link_number b) (stream_number b) e;
  carries = λ a b c e f. carries (link_number a) (stream_number a) (link_number b) (stream_number b) (link_number c) (stream_number c) e f;
}
