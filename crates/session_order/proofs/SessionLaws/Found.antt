-- What is found in a list is in it, and passes.
use Rattle.std.proofs.Common.{◌≡◌, ◌∷◌, ap, refl, sym, ◌∙◌, Bool, true, false, List, [], Option, None, Some, ℕ, zero, suc, cond, filter, find, if◌then◌else◌, is_none, slice_get}
use Rattle.std.specs.Option.{option_or}
use Rattle.session_actions.specs.Words.{earlier, first_of, foremost}

pub record AtSome {X : Type 0} (xs : List X) (x : X) : Type 0 where
  pub index : ℕ
  pub here : slice_get xs index ≡ Some x

find_if : {X : Type 0} (test : X → Bool) (z : X) (xs : List X) (x : X) (b : Bool) → test z ≡ b → find test (z ∷ xs) ≡ Some x
    → (find test xs ≡ Some x → AtSome xs x) → AtSome (z ∷ xs) x
find_if test z xs x true is e rest = record { index = 0; here = (cc) }
find_if test z xs x false is e rest = (let there : AtSome xs x = rest (cc) in record { index = suc there.index; here = there.here })

pub find_at : {X : Type 0} (test : X → Bool) (xs : List X) (x : X) → find test xs ≡ Some x → AtSome xs x
find_at test [] x e = absurd (cc)
find_at test (z ∷ xs) x e = find_if test z xs x (test z) refl e (find_at test xs x)

found_if : {X : Type 0} (test : X → Bool) (z : X) (zs : List X) (x : X) (b : Bool) → test z ≡ b → find test (z ∷ zs) ≡ Some x
    → (find test zs ≡ Some x → test x ≡ true) → test x ≡ true
found_if test z zs x true is e rest = (let one : x ≡ z = (cc) in ap test one ∙ is)
found_if test z zs x false is e rest = rest (cc)

pub found_passes : {X : Type 0} (test : X → Bool) (xs : List X) (x : X) → find test xs ≡ Some x → test x ≡ true
found_passes test [] x e = absurd (cc)
found_passes test (z ∷ zs) x e = found_if test z zs x (test z) refl e (found_passes test zs x)

pub same_of : {X : Type 0} (o : Option X) (x y : X) → o ≡ Some x → o ≡ Some y → x ≡ y
same_of None x y e f = absurd (cc)
same_of (Some z) x y e f = (cc)

-- the foremost
later : {X : Type 0} (z : X) (zs : List X) (x : X) → AtSome zs x → AtSome (z ∷ zs) x
later z zs x f = record { index = suc f.index; here = f.here }

first_one : {X : Type 0} (z : X) (zs : List X) (x : X) → x ≡ z → AtSome (z ∷ zs) x
first_one {X = X} z zs x e = record { index = 0; here = ap (λ (y : X). Some y) (sym e) }

earlier_if : {X : Type 0} (z v : X) (zs : List X) (b : Bool) (w : X) → w ≡ (if b then v else z) → (w ≡ v → AtSome zs w) → AtSome (z ∷ zs) w
earlier_if z v zs true w e rest = later z zs w (rest e)
earlier_if z v zs false w e rest = first_one z zs w e

earlier_at : {X : Type 0} (before : X → X → Bool) (z : X) (zs : List X) (o : Option X) (w : X) → foremost before zs ≡ o → w ≡ earlier before z o
    → ((v : X) → foremost before zs ≡ Some v → AtSome zs v) → AtSome (z ∷ zs) w
earlier_at before z zs None w is e rest = first_one z zs w e
earlier_at {X = X} before z zs (Some v) w is e rest =
    earlier_if z v zs (before v z) w e (λ same. rest w (is ∙ ap (λ (y : X). Some y) (sym same)))

pub foremost_at : {X : Type 0} (before : X → X → Bool) (xs : List X) (y : X) → foremost before xs ≡ Some y → AtSome xs y
foremost_at before [] y e = absurd (cc)
foremost_at before (z ∷ zs) y e =
    let one : y ≡ earlier before z (foremost before zs) = (cc) in
    earlier_at before z zs (foremost before zs) y refl one (λ v f. foremost_at before zs v f)

-- one of those that pass
pub record AtFiltered {X : Type 0} (test : X → Bool) (xs : List X) (x : X) : Type 0 where
  pub at : AtSome xs x
  pub passes : test x ≡ true

filtered_if : {X : Type 0} (test : X → Bool) (z : X) (zs : List X) (b : Bool) (i : ℕ) (x : X) → test z ≡ b
    → slice_get (cond b (z ∷ filter test zs) (filter test zs)) i ≡ Some x → ((j : ℕ) → slice_get (filter test zs) j ≡ Some x → AtFiltered test zs x)
    → AtFiltered test (z ∷ zs) x
filtered_if test z zs true zero x is e rest =
    let one : x ≡ z = (cc) in record { at = first_one z zs x one; passes = ap test one ∙ is }
filtered_if test z zs true (suc i) x is e rest =
    let f : AtFiltered test zs x = rest i e in record { at = later z zs x f.at; passes = f.passes }
filtered_if test z zs false i x is e rest =
    let f : AtFiltered test zs x = rest i e in record { at = later z zs x f.at; passes = f.passes }

pub filter_at : {X : Type 0} (test : X → Bool) (xs : List X) (i : ℕ) (x : X) → slice_get (filter test xs) i ≡ Some x → AtFiltered test xs x
filter_at test [] i x e = absurd (cc)
filter_at test (z ∷ zs) i x e = filtered_if test z zs (test z) i x refl e (λ j f. filter_at test zs j x f)

-- the first that gives something
pub record AtFirst {X Y : Type 0} (f : X → Option Y) (xs : List X) (y : Y) : Type 0 where
  pub item : X
  pub index : ℕ
  pub here : slice_get xs index ≡ Some item
  pub gives : f item ≡ Some y

first_if : {X Y : Type 0} (f : X → Option Y) (z : X) (zs : List X) (o : Option Y) (y : Y) → f z ≡ o → option_or o (first_of f zs) ≡ Some y
    → (first_of f zs ≡ Some y → AtFirst f zs y) → AtFirst f (z ∷ zs) y
first_if f z zs None y is e rest =
    let r : AtFirst f zs y = rest e in record { item = r.item; index = suc r.index; here = r.here; gives = r.gives }
first_if f z zs (Some w) y is e rest = record { item = z; index = 0; here = refl; gives = is ∙ e }

pub first_at : {X Y : Type 0} (f : X → Option Y) (xs : List X) (y : Y) → first_of f xs ≡ Some y → AtFirst f xs y
first_at f [] y e = absurd (cc)
first_at f (z ∷ zs) y e = first_if f z zs (f z) y refl e (first_at f zs y)

-- what may not be there
pub none_of : {X : Type 0} (o : Option X) → is_none o ≡ true → o ≡ None
none_of None e = refl
none_of (Some x) e = absurd (cc)
