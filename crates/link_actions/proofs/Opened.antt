-- The first attempt that waits on a link gets a stream: what that changes in the lists of attempts.
use Rattle.std.proofs.Common.{◌≡◌, ◌<◌, ◌∷◌, ◌++◌, ◌&&◌, ap, arith, refl, subst, sym, ◌∙◌, Bool, true, false, List, [], Option, None, Some, ℕ, ◌+◌, suc, cond, drop, filter, if◌then◌else◌, is_none, is_some, nat_lt, slice_get, slice_set}
use Rattle.std.specs.List.{AllByRecursion}
use Rattle.std.proofs.lemmas.Bool.Decides.{nat_tests}
use Rattle.link_actions.proofs.Lists.{if_false, if_true, on_if}
use Rattle.link_actions.specs.Sees.{AttemptsStandInPlace, by_stream, put_by_stream}
use Rattle.session_actions.specs.Links.{stream_number}
use Rattle.session_actions.specs.Reading.{is_outstanding_on}
use Rattle.session_actions.specs.Words.{changed, changed_if}
use Rattle.session_actions.specs.Writing.{with_stream}
use Rattle.session_actions.specs.declared.attempt.Attempt.{Attempt}
use Rattle.session_actions.specs.declared.link.Link.{Link}

abbrev pub waits : Attempt → Bool
waits a = is_none a.row.stream

abbrev pub streams : Attempt → Bool
streams a = is_some a.row.stream

-- the first that waits, changed
abbrev opened_if : Bool → ℕ → Attempt → List Attempt → List Attempt → List Attempt
opened_if b n a xs others = if b then with_stream n a ∷ xs else a ∷ others

abbrev pub opened_first : Link → ℕ → List Attempt → List Attempt
opened_first l n [] = []
opened_first l n (a ∷ xs) = opened_if (is_outstanding_on l a && waits a) n a xs (opened_first l n xs)

-- it stands at its place
pub record IsFirst (l : Link) (n k : ℕ) (xs : List Attempt) (a : Attempt) : Type 0 where
  pub index : ℕ
  pub place : a.place ≡ k + index
  pub there : slice_get xs index ≡ Some a
  pub set : slice_set xs index (with_stream n a) ≡ opened_first l n xs
  pub waits_ : a.row.stream ≡ None

no_stream_by : (o : Option ℕ) → is_none o ≡ true → o ≡ None
no_stream_by None e = refl
no_stream_by (Some n) e = absurd (cc)

later : (l : Link) (n k : ℕ) (x : Attempt) (xs : List Attempt) (a : Attempt) → (is_outstanding_on l x && waits x) ≡ false → IsFirst l n (k + 1) xs a → IsFirst l n k (x ∷ xs) a
later l n k x xs a off rest =
    let place : a.place ≡ k + 1 + rest.index = rest.place in
    record {
      index = suc rest.index;
      place = (omega (arith, place));
      there = rest.there;
      set = ap (λ (ys : List Attempt). x ∷ ys) rest.set ∙ sym (if_false (is_outstanding_on l x && waits x) (with_stream n x ∷ xs) (x ∷ opened_first l n xs) off);
      waits_ = rest.waits_;
    }

first_by : (l : Link) (n k : ℕ) (x : Attempt) (xs : List Attempt) (a : Attempt) (o w : Bool) → is_outstanding_on l x ≡ o → waits x ≡ w → x.place ≡ k
    → slice_get (filter waits (cond o (x ∷ filter (is_outstanding_on l) xs) (filter (is_outstanding_on l) xs))) 0 ≡ Some a
    → (slice_get (filter waits (filter (is_outstanding_on l) xs)) 0 ≡ Some a → IsFirst l n (k + 1) xs a) → IsFirst l n k (x ∷ xs) a
first_by l n k x xs a true true is was place e next =
    let head : cond (waits x) (x ∷ filter waits (filter (is_outstanding_on l) xs)) (filter waits (filter (is_outstanding_on l) xs)) ≡ x ∷ filter waits (filter (is_outstanding_on l) xs)
    = if_true (waits x) (x ∷ filter waits (filter (is_outstanding_on l) xs)) (filter waits (filter (is_outstanding_on l) xs)) was in
    let found : Some x ≡ Some a = sym (ap (λ (ys : List Attempt). slice_get ys 0) head) ∙ e in
    let same : x ≡ a = (cc) in
    let F : Attempt → Type 0 = λ b. IsFirst l n k (x ∷ xs) b in
    subst F same (record {
      index = 0;
      place = (omega (arith, place));
      there = refl;
      set = sym (if_true (is_outstanding_on l x && waits x) (with_stream n x ∷ xs) (x ∷ opened_first l n xs) (ap (λ (b : Bool). b && waits x) is ∙ was));
      waits_ = no_stream_by x.row.stream was;
    })
first_by l n k x xs a true false is was place e next =
    let none : filter waits (x ∷ filter (is_outstanding_on l) xs) ≡ filter waits (filter (is_outstanding_on l) xs)
    = if_false (waits x) (x ∷ filter waits (filter (is_outstanding_on l) xs)) (filter waits (filter (is_outstanding_on l) xs)) was in
    later l n k x xs a (ap (λ (b : Bool). b && waits x) is ∙ was) (next (sym (ap (λ (ys : List Attempt). slice_get ys 0) none) ∙ e))
first_by l n k x xs a false w is was place e next = later l n k x xs a (ap (λ (b : Bool). b && waits x) is) (next e)

pub first_is : (l : Link) (n k : ℕ) (xs : List Attempt) (a : Attempt) → AttemptsStandInPlace k xs → slice_get (filter waits (filter (is_outstanding_on l) xs)) 0 ≡ Some a → IsFirst l n k xs a
first_is l n k [] a places e = absurd (cc)
first_is l n k (x ∷ xs) a places e = first_by l n k x xs a (is_outstanding_on l x) (waits x) refl refl places.0 e (first_is l n (k + 1) xs a places.1)

-- so the session changes it
pub changed_first : (l : Link) (n : ℕ) (xs : List Attempt) (a : Attempt) → IsFirst l n 1 xs a → changed (with_stream n) a.place xs ≡ opened_first l n xs
changed_first l n xs a is =
    let at : a.place ≡ suc is.index = (let place : a.place ≡ 1 + is.index = is.place in omega (arith, place)) in
    ap (λ (k : ℕ). changed (with_stream n) k xs) at ∙ ap (λ (o : Option Attempt). changed_if (with_stream n) (suc is.index) xs o) is.there ∙ is.set

-- the others that wait
waits_by : (l : Link) (n : ℕ) (x : Attempt) (xs : List Attempt) (o w : Bool) → is_outstanding_on l x ≡ o → waits x ≡ w
    → filter waits (filter (is_outstanding_on l) (opened_first l n xs)) ≡ drop 1 (filter waits (filter (is_outstanding_on l) xs))
    → filter waits (filter (is_outstanding_on l) (opened_if (o && w) n x xs (opened_first l n xs)))
    ≡ drop 1 (filter waits (cond o (x ∷ filter (is_outstanding_on l) xs) (filter (is_outstanding_on l) xs)))
waits_by l n x xs true true is was next =
    let rest : List Attempt = filter (is_outstanding_on l) xs in
    ap (filter waits) (if_true (is_outstanding_on l x) (with_stream n x ∷ rest) rest is)
    ∙ sym (ap (drop 1) (if_true (waits x) (x ∷ filter waits rest) (filter waits rest) was))
waits_by l n x xs true false is was next =
    let rest : List Attempt = filter (is_outstanding_on l) xs in
    let other : List Attempt = filter (is_outstanding_on l) (opened_first l n xs) in
    ap (filter waits) (if_true (is_outstanding_on l x) (x ∷ other) other is)
    ∙ if_false (waits x) (x ∷ filter waits other) (filter waits other) was ∙ next
    ∙ sym (ap (drop 1) (if_false (waits x) (x ∷ filter waits rest) (filter waits rest) was))
waits_by l n x xs false w is was next =
    let other : List Attempt = filter (is_outstanding_on l) (opened_first l n xs) in
    ap (filter waits) (if_false (is_outstanding_on l x) (x ∷ other) other is) ∙ next

pub others_wait : (l : Link) (n : ℕ) (xs : List Attempt)
    → filter waits (filter (is_outstanding_on l) (opened_first l n xs)) ≡ drop 1 (filter waits (filter (is_outstanding_on l) xs))
others_wait l n [] = refl
others_wait l n (x ∷ xs) = waits_by l n x xs (is_outstanding_on l x) (waits x) refl refl (others_wait l n xs)

-- the places
places_if : (l : Link) (n k : ℕ) (x : Attempt) (xs : List Attempt) (b : Bool) → x.place ≡ k → AttemptsStandInPlace (k + 1) xs → AttemptsStandInPlace (k + 1) (opened_first l n xs)
    → AttemptsStandInPlace k (opened_if b n x xs (opened_first l n xs))
places_if l n k x xs true e places next = (e, places)
places_if l n k x xs false e places next = (e, next)

pub places_stay : (l : Link) (n k : ℕ) (xs : List Attempt) → AttemptsStandInPlace k xs → AttemptsStandInPlace k (opened_first l n xs)
places_stay l n k [] places = tt
places_stay l n k (x ∷ xs) places = places_if l n k x xs (is_outstanding_on l x && waits x) places.0 places.1 (places_stay l n (k + 1) xs places.1)

-- the streams, in the order in which they were opened: one more at the end
abbrev pub AreBelow : ℕ → List Attempt → Type 0
AreBelow n xs = AllByRecursion (λ a. stream_number a < n) xs

is_less : (m n : ℕ) → m < n → nat_lt m n ≡ true
is_less m n h = grind (arith, nat_tests, h)

put_last : (a : Attempt) (bs : List Attempt) → AreBelow (stream_number a) bs → put_by_stream a bs ≡ bs ++ a ∷ []
put_last a [] below = refl
put_last a (b ∷ bs) below =
    if_true (nat_lt (stream_number b) (stream_number a)) (b ∷ put_by_stream a bs) (a ∷ b ∷ bs) (is_less (stream_number b) (stream_number a) below.0)
    ∙ ap (λ (ys : List Attempt). b ∷ ys) (put_last a bs below.1)

not_above : (m n : ℕ) → n < m → nat_lt m n ≡ false
not_above m n h = grind (arith, nat_tests, h)

put_by : (c : Bool) (b x a : Attempt) (bs : List Attempt) → put_by_stream x (bs ++ a ∷ []) ≡ put_by_stream x bs ++ a ∷ []
    → (if c then b ∷ put_by_stream x (bs ++ a ∷ []) else x ∷ b ∷ bs ++ a ∷ []) ≡ (if c then b ∷ put_by_stream x bs else x ∷ b ∷ bs) ++ a ∷ []
put_by true b x a bs e = ap (λ (ys : List Attempt). b ∷ ys) e
put_by false b x a bs e = refl

put_before : (x a : Attempt) (bs : List Attempt) → stream_number x < stream_number a → put_by_stream x (bs ++ a ∷ []) ≡ put_by_stream x bs ++ a ∷ []
put_before x a [] low = if_false (nat_lt (stream_number a) (stream_number x)) (a ∷ x ∷ []) (x ∷ a ∷ []) (not_above (stream_number a) (stream_number x) low)
put_before x a (b ∷ bs) low = put_by (nat_lt (stream_number b) (stream_number x)) b x a bs (put_before x a bs low)

unput_by : (P : Attempt → Type 0) (a b : Attempt) (bs : List Attempt) (c : Bool) → AllByRecursion P (if c then b ∷ put_by_stream a bs else a ∷ b ∷ bs)
    → (AllByRecursion P (put_by_stream a bs) → P a × AllByRecursion P bs) → P a × AllByRecursion P (b ∷ bs)
unput_by P a b bs true all next = (let parts = next all.1 in (parts.0, (all.0, parts.1)))
unput_by P a b bs false all next = (all.0, all.1)

unput : (P : Attempt → Type 0) (a : Attempt) (bs : List Attempt) → AllByRecursion P (put_by_stream a bs) → P a × AllByRecursion P bs
unput P a [] all = (all.0, tt)
unput P a (b ∷ bs) all = unput_by P a b bs (nat_lt (stream_number b) (stream_number a)) all (λ e. unput P a bs e)

pub unsorted : (P : Attempt → Type 0) (xs : List Attempt) → AllByRecursion P (by_stream xs) → AllByRecursion P xs
unsorted P [] all = tt
unsorted P (a ∷ xs) all = (let parts = unput P a (by_stream xs) all in (parts.0, unsorted P xs parts.1))

pub put_all : (P : Attempt → Type 0) (a : Attempt) (bs : List Attempt) → P a → AllByRecursion P bs → AllByRecursion P (put_by_stream a bs)
put_all P a [] p all = (p, tt)
put_all P a (b ∷ bs) p all =
    on_if (AllByRecursion P) (nat_lt (stream_number b) (stream_number a)) (b ∷ put_by_stream a bs) (a ∷ b ∷ bs) (λ e. (all.0, put_all P a bs p all.1)) (λ e. (p, all))

sorted_below : (n : ℕ) (xs : List Attempt) → AreBelow n xs → AreBelow n (by_stream xs)
sorted_below n [] below = tt
sorted_below n (a ∷ xs) below = put_all (λ b. stream_number b < n) a (by_stream xs) below.0 (sorted_below n xs below.1)

abbrev pub streaming : Link → List Attempt → List Attempt
streaming l xs = filter streams (filter (is_outstanding_on l) xs)

turned_over : (o : Option ℕ) (b : Bool) → is_none o ≡ b → is_some o ≡ (if b then false else true)
turned_over None true e = refl
turned_over (Some n) false e = refl
turned_over None false e = absurd (cc)
turned_over (Some n) true e = absurd (cc)

-- by the first attempt
streams_by : (l : Link) (n : ℕ) (x : Attempt) (xs : List Attempt) (a : Attempt) (o w : Bool) → is_outstanding_on l x ≡ o → waits x ≡ w
    → slice_get (filter waits (cond o (x ∷ filter (is_outstanding_on l) xs) (filter (is_outstanding_on l) xs))) 0 ≡ Some a
    → AreBelow n (filter streams (cond o (x ∷ filter (is_outstanding_on l) xs) (filter (is_outstanding_on l) xs)))
    → (slice_get (filter waits (filter (is_outstanding_on l) xs)) 0 ≡ Some a → AreBelow n (streaming l xs) → by_stream (streaming l (opened_first l n xs)) ≡ by_stream (streaming l xs) ++ with_stream n a ∷ [])
    → by_stream (streaming l (opened_if (o && w) n x xs (opened_first l n xs)))
    ≡ by_stream (filter streams (cond o (x ∷ filter (is_outstanding_on l) xs) (filter (is_outstanding_on l) xs))) ++ with_stream n a ∷ []
streams_by l n x xs a true true is was e below next =
    let rest : List Attempt = filter (is_outstanding_on l) xs in
    let head : filter waits (x ∷ rest) ≡ x ∷ filter waits rest = if_true (waits x) (x ∷ filter waits rest) (filter waits rest) was in
    let found : Some x ≡ Some a = sym (ap (λ (ys : List Attempt). slice_get ys 0) head) ∙ e in
    let same : x ≡ a = (cc) in
    let none : filter streams (x ∷ rest) ≡ filter streams rest = if_false (streams x) (x ∷ filter streams rest) (filter streams rest) (turned_over x.row.stream true was) in
    let B : List Attempt → Type 0 = λ ys. AreBelow n ys in
    ap (λ (ys : List Attempt). by_stream (filter streams ys)) (if_true (is_outstanding_on l x) (with_stream n x ∷ rest) rest is)
    ∙ put_last (with_stream n x) (by_stream (filter streams rest)) (sorted_below n (filter streams rest) (subst B none below))
    ∙ ap (λ (b : Attempt). by_stream (filter streams rest) ++ with_stream n b ∷ []) same
    ∙ sym (ap (λ (ys : List Attempt). by_stream ys ++ with_stream n a ∷ []) none)
streams_by l n x xs a true false is was e below next =
    let rest : List Attempt = filter (is_outstanding_on l) xs in
    let other : List Attempt = filter (is_outstanding_on l) (opened_first l n xs) in
    let some : streams x ≡ true = turned_over x.row.stream false was in
    let none : filter waits (x ∷ rest) ≡ filter waits rest = if_false (waits x) (x ∷ filter waits rest) (filter waits rest) was in
    let more : filter streams (x ∷ rest) ≡ x ∷ filter streams rest = if_true (streams x) (x ∷ filter streams rest) (filter streams rest) some in
    let B : List Attempt → Type 0 = λ ys. AreBelow n ys in
    let parts : AreBelow n (x ∷ filter streams rest) = subst B more below in
    ap (λ (ys : List Attempt). by_stream (filter streams ys)) (if_true (is_outstanding_on l x) (x ∷ other) other is)
    ∙ ap by_stream (if_true (streams x) (x ∷ filter streams other) (filter streams other) some)
    ∙ ap (put_by_stream x) (next (sym (ap (λ (ys : List Attempt). slice_get ys 0) none) ∙ e) parts.1)
    ∙ put_before x (with_stream n a) (by_stream (filter streams rest)) parts.0
    ∙ sym (ap (λ (ys : List Attempt). by_stream ys ++ with_stream n a ∷ []) more)
streams_by l n x xs a false w is was e below next =
    let other : List Attempt = filter (is_outstanding_on l) (opened_first l n xs) in
    ap (λ (ys : List Attempt). by_stream (filter streams ys)) (if_false (is_outstanding_on l x) (x ∷ other) other is) ∙ next e below

pub one_more_stream : (l : Link) (n : ℕ) (xs : List Attempt) (a : Attempt) → slice_get (filter waits (filter (is_outstanding_on l) xs)) 0 ≡ Some a → AreBelow n (streaming l xs)
    → by_stream (streaming l (opened_first l n xs)) ≡ by_stream (streaming l xs) ++ with_stream n a ∷ []
one_more_stream l n [] a e below = absurd (cc)
one_more_stream l n (x ∷ xs) a e below = streams_by l n x xs a (is_outstanding_on l x) (waits x) refl refl e below (one_more_stream l n xs a)
