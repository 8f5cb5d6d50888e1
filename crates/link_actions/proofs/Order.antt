-- The attempt that comes first on a link is the first one in the order of their streams.
use Rattle.std.proofs.Common.{◌≡◌, ◌≤◌, ◌∷◌, ◌||◌, ◌&&◌, ◌==◌, ap, arith, refl, subst, sym, ◌∙◌, Bool, true, false, List, [], Option, None, Some, ℕ, cond, find, if◌then◌else◌, is_some, filter, nat_lt, option_and_then}
use Rattle.std.specs.List.{AllByRecursion}
use Rattle.std.specs.Option.{option_or}
use Rattle.std.proofs.lemmas.Bool.Decides.{nat_tests}
use Rattle.link_actions.proofs.Lists.{if_false, if_true, on_if}
use Rattle.link_actions.specs.Sees.{by_stream, put_by_stream}
use Rattle.session_actions.specs.Links.{is_stream_before, link_number, stream_number}
use Rattle.session_actions.specs.Words.{earlier, first_of, foremost}
use Rattle.session_actions.specs.declared.attempt.Attempt.{Attempt}

-- all from a stream on, and in rising order
abbrev pub AreFrom : ℕ → List Attempt → Type 0
AreFrom n [] = Unit {0}
AreFrom n (a ∷ rest) = (n ≤ stream_number a) × AreFrom n rest

abbrev pub AreRising : List Attempt → Type 0
AreRising [] = Unit {0}
AreRising (a ∷ rest) = AreFrom (stream_number a) rest × AreRising rest

less_so : (m n : ℕ) → nat_lt m n ≡ true → m ≤ n
less_so m n e = grind (arith, nat_tests, e)

pub not_less : (m n : ℕ) → nat_lt m n ≡ false → n ≤ m
not_less m n e = grind (arith, nat_tests, e)

pub from_lower : (m n : ℕ) (rest : List Attempt) → m ≤ n → AreFrom n rest → AreFrom m rest
from_lower m n [] h are = tt
from_lower m n (a ∷ rest) h are = (let low : n ≤ stream_number a = are.0 in omega (arith, h, low), from_lower m n rest h are.1)

put_from : (n : ℕ) (a : Attempt) (bs : List Attempt) → n ≤ stream_number a → AreFrom n bs → AreFrom n (put_by_stream a bs)
put_from n a [] h are = (h, tt)
put_from n a (b ∷ bs) h are =
    on_if (λ (xs : List Attempt). AreFrom n xs) (nat_lt (stream_number b) (stream_number a)) (b ∷ put_by_stream a bs) (a ∷ b ∷ bs)
    (λ e. (are.0, put_from n a bs h are.1)) (λ e. (h, are))

put_rises : (a : Attempt) (bs : List Attempt) → AreRising bs → AreRising (put_by_stream a bs)
put_rises a [] are = (tt, tt)
put_rises a (b ∷ bs) are =
    on_if AreRising (nat_lt (stream_number b) (stream_number a)) (b ∷ put_by_stream a bs) (a ∷ b ∷ bs)
    (λ e. (put_from (stream_number b) a bs (less_so (stream_number b) (stream_number a) e) are.0, put_rises a bs are.1))
    (λ e.
    let low : stream_number a ≤ stream_number b = not_less (stream_number b) (stream_number a) e in
    ((low, from_lower (stream_number a) (stream_number b) bs low are.0), are))

pub by_stream_rises : (xs : List Attempt) → AreRising (by_stream xs)
by_stream_rises [] = tt
by_stream_rises (a ∷ xs) = put_rises a (by_stream xs) (by_stream_rises xs)

-- by the stream alone
abbrev before : Attempt → Attempt → Bool
before a b = nat_lt (stream_number a) (stream_number b)

-- what is found from a stream on is not before it
found_by : (n : ℕ) (b y : Attempt) (x : Bool) (o : Option Attempt) → n ≤ stream_number b → cond x (Some b) o ≡ Some y
    → (o ≡ Some y → n ≤ stream_number y) → n ≤ stream_number y
found_by n b y true o low e next = subst (λ (z : Attempt). n ≤ stream_number z) (let same : b ≡ y = (cc) in same) low
found_by n b y false o low e next = next e

found_from : (p : Attempt → Bool) (n : ℕ) (bs : List Attempt) (y : Attempt) → AreFrom n bs → find p bs ≡ Some y → n ≤ stream_number y
found_from p n [] y are e = absurd (cc)
found_from p n (b ∷ bs) y are e = found_by n b y (p b) (find p bs) are.0 e (found_from p n bs y are.1)

-- the first one that passes, with one more
not_before : (m n : ℕ) → n ≤ m → nat_lt m n ≡ false
not_before m n h = grind (arith, nat_tests, h)

itself_from : (b : Attempt) (bs : List Attempt) → AreFrom (stream_number b) bs → AreFrom (stream_number b) (b ∷ bs)
itself_from b bs are = (let same : stream_number b ≤ stream_number b = omega arith in same, are)

stays_first : (a : Attempt) (n : ℕ) (o : Option Attempt) → stream_number a ≤ n → ((y : Attempt) → o ≡ Some y → n ≤ stream_number y) → earlier before a o ≡ a
stays_first a n None low from = refl
stays_first a n (Some y) low from =
    let high : n ≤ stream_number y = from y refl in
    if_false (nat_lt (stream_number y) (stream_number a)) y a (not_before (stream_number y) (stream_number a) (let h : stream_number a ≤ stream_number y = omega (arith, low, high) in h))

not_passed : (p : Attempt → Bool) (a : Attempt) (bs : List Attempt) → p a ≡ false → find p (put_by_stream a bs) ≡ find p bs
not_passed p a [] e = if_false (p a) (Some a) None e
not_passed p a (b ∷ bs) e =
    on_if (λ (xs : List Attempt). find p xs ≡ find p (b ∷ bs)) (nat_lt (stream_number b) (stream_number a)) (b ∷ put_by_stream a bs) (a ∷ b ∷ bs)
    (λ h. ap (λ (o : Option Attempt). cond (p b) (Some b) o) (not_passed p a bs e)) (λ h. if_false (p a) (Some a) (find p (b ∷ bs)) e)

passed_after : (a b : Attempt) (x : Bool) (o q : Option Attempt) → nat_lt (stream_number b) (stream_number a) ≡ true → q ≡ Some (earlier before a o)
    → cond x (Some b) q ≡ Some (earlier before a (cond x (Some b) o))
passed_after a b true o q less e = ap (λ (z : Attempt). Some z) (sym (if_true (nat_lt (stream_number b) (stream_number a)) b a less))
passed_after a b false o q less e = e

passed : (p : Attempt → Bool) (a : Attempt) (bs : List Attempt) → p a ≡ true → AreRising bs
    → find p (put_by_stream a bs) ≡ Some (earlier before a (find p bs))
passed p a [] e are = if_true (p a) (Some a) None e
passed p a (b ∷ bs) e are =
    on_if (λ (xs : List Attempt). find p xs ≡ Some (earlier before a (find p (b ∷ bs)))) (nat_lt (stream_number b) (stream_number a)) (b ∷ put_by_stream a bs) (a ∷ b ∷ bs)
    (λ less. passed_after a b (p b) (find p bs) (find p (put_by_stream a bs)) less (passed p a bs e are.1))
    (λ less.
    let low : stream_number a ≤ stream_number b = not_less (stream_number b) (stream_number a) less in
    if_true (p a) (Some a) (find p (b ∷ bs)) e
    ∙ ap (λ (z : Attempt). Some z) (sym (stays_first a (stream_number b) (find p (b ∷ bs)) low (λ y h. found_from p (stream_number b) (b ∷ bs) y (itself_from b bs are.0) h))))

with_first : (p : Attempt → Bool) (a : Attempt) (xs : List Attempt) (x : Bool) → p a ≡ x → foremost before (filter p xs) ≡ find p (by_stream xs)
    → foremost before (cond x (a ∷ filter p xs) (filter p xs)) ≡ find p (put_by_stream a (by_stream xs))
with_first p a xs true is e =
    ap (λ (o : Option Attempt). Some (earlier before a o)) e ∙ sym (passed p a (by_stream xs) is (by_stream_rises xs))
with_first p a xs false is e = e ∙ sym (not_passed p a (by_stream xs) is)

foremost_found : (p : Attempt → Bool) (xs : List Attempt) → foremost before (filter p xs) ≡ find p (by_stream xs)
foremost_found p [] = refl
foremost_found p (a ∷ xs) = with_first p a xs (p a) refl (foremost_found p xs)

-- on one link
abbrev pub AreOn : ℕ → List Attempt → Type 0
AreOn n xs = AllByRecursion (λ a. link_number a ≡ n) xs

before_by : (k m n i j : ℕ) → k ≡ n → m ≡ n → (nat_lt k m || ((k == m) && nat_lt i j)) ≡ nat_lt i j
before_by k m n i j e h = grind (arith, nat_tests, e, h)

same_earlier : (n : ℕ) (a : Attempt) (o : Option Attempt) → link_number a ≡ n → ((y : Attempt) → o ≡ Some y → link_number y ≡ n)
    → earlier is_stream_before a o ≡ earlier before a o
same_earlier n a None e all = refl
same_earlier n a (Some y) e all =
    ap (λ (b : Bool). if b then y else a) (before_by (link_number y) (link_number a) n (stream_number y) (stream_number a) (all y refl) e)

on_if_first : (n : ℕ) (b : Bool) (x a y : Attempt) → link_number x ≡ n → link_number a ≡ n → (if b then x else a) ≡ y → link_number y ≡ n
on_if_first n true x a y is was e = subst (λ (z : Attempt). link_number z ≡ n) e is
on_if_first n false x a y is was e = subst (λ (z : Attempt). link_number z ≡ n) e was

earlier_on : (n : ℕ) (a : Attempt) (o : Option Attempt) (y : Attempt) → link_number a ≡ n → ((z : Attempt) → o ≡ Some z → link_number z ≡ n)
    → earlier before a o ≡ y → link_number y ≡ n
earlier_on n a None y e all is = subst (λ (z : Attempt). link_number z ≡ n) is e
earlier_on n a (Some x) y e all is = on_if_first n (before x a) x a y (all x refl) e is

foremost_on : (n : ℕ) (xs : List Attempt) → AreOn n xs → (y : Attempt) → foremost before xs ≡ Some y → link_number y ≡ n
foremost_on n [] are y e = absurd (cc)
foremost_on n (a ∷ xs) are y e =
    let same : earlier before a (foremost before xs) ≡ y = (cc) in
    earlier_on n a (foremost before xs) y are.0 (foremost_on n xs are.1) same

same_foremost : (n : ℕ) (xs : List Attempt) → AreOn n xs → foremost is_stream_before xs ≡ foremost before xs
same_foremost n [] are = refl
same_foremost n (a ∷ xs) are =
    ap (λ (o : Option Attempt). Some (earlier is_stream_before a o)) (same_foremost n xs are.1)
    ∙ ap (λ (z : Attempt). Some z) (same_earlier n a (foremost before xs) are.0 (foremost_on n xs are.1))

kept_on : (n : ℕ) (b : Bool) (a : Attempt) (xs : List Attempt) → link_number a ≡ n → AreOn n xs → AreOn n (cond b (a ∷ xs) xs)
kept_on n true a xs e are = (e, are)
kept_on n false a xs e are = are

pub filter_on : (n : ℕ) (p : Attempt → Bool) (xs : List Attempt) → AreOn n xs → AreOn n (filter p xs)
filter_on n p [] are = tt
filter_on n p (a ∷ xs) are = kept_on n (p a) a (filter p xs) are.0 (filter_on n p xs are.1)

-- the first value that they give
found_value : {Y : Type 0} (f : Attempt → Option Y) (a : Attempt) (o : Option Y) (rest : Option Attempt) (q : Option Y) → f a ≡ o → option_and_then f rest ≡ q
    → option_and_then f (cond (is_some o) (Some a) rest) ≡ option_or o q
found_value f a None rest q is e = e
found_value f a (Some y) rest q is e = is

value_found : {Y : Type 0} (f : Attempt → Option Y) (xs : List Attempt) → option_and_then f (find (λ a. is_some (f a)) xs) ≡ first_of f xs
value_found f [] = refl
value_found f (a ∷ xs) = found_value f a (f a) (find (λ b. is_some (f b)) xs) (first_of f xs) refl (value_found f xs)

pub first_is_foremost : {Y : Type 0} (n : ℕ) (f : Attempt → Option Y) (xs : List Attempt) → AreOn n xs
    → option_and_then f (foremost is_stream_before (filter (λ a. is_some (f a)) xs)) ≡ first_of f (by_stream xs)
first_is_foremost n f xs are =
    ap (option_and_then f) (same_foremost n (filter (λ a. is_some (f a)) xs) (filter_on n (λ a. is_some (f a)) xs are))
    ∙ ap (option_and_then f) (foremost_found (λ a. is_some (f a)) xs) ∙ value_found f (by_stream xs)
