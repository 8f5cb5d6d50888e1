-- Lists of streams and of attempts, without those of one attempt.
use Rattle.std.proofs.Common.{◌≡◌, ◌<◌, ◌≤◌, ◌∷◌, ◌||◌, ◌==◌, not, ap, arith, refl, subst, sym, ◌∙◌, Bool, true, false, List, [], Option, Some, ℕ, ◌+◌, zero, suc, cond, filter, if◌then◌else◌, map, nat_lt, slice_get, slice_set}
use Rattle.std.specs.List.{AllByRecursion}
use Rattle.std.proofs.lemmas.Bool.Decides.{nat_tests}
use Rattle.h2_link.specs.declared.live.LiveStream.{LiveStream}
use Rattle.lb_policy.specs.Table.{is_one_of}
use Rattle.link_actions.proofs.Lists.{both_if, if_false, if_true, none_of, on_if}
use Rattle.link_actions.proofs.Order.{AreFrom, AreRising, by_stream_rises, from_lower, not_less}
use Rattle.link_actions.specs.Sees.{NumbersAreDistinct, StreamsAreLive, StreamsAreOpened, AttemptsStandInPlace, by_stream, put_by_stream}
use Rattle.session_actions.specs.Links.{stream_number}
use Rattle.session_actions.specs.Words.{changed, changed_if, numbered}
use Rattle.session_actions.specs.declared.attempt.Attempt.{Attempt}
use Rattle.session_actions.specs.declared.link.Link.{Link}

-- it is another one
abbrev pub is_other : ℕ → ℕ → Bool
is_other t n = not (n == t)

abbrev pub is_other_stream : ℕ → LiveStream → Bool
is_other_stream t x = is_other t x.tag

abbrev pub is_other_attempt : ℕ → Attempt → Bool
is_other_attempt t a = is_other t a.place

-- filters
swap_by : {X : Type 0} (p q : X → Bool) (x : X) (ys zs : List X) (a b : Bool) → p x ≡ a → q x ≡ b → filter p ys ≡ filter q zs
    → filter p (cond b (x ∷ ys) ys) ≡ filter q (cond a (x ∷ zs) zs)
swap_by p q x ys zs true true is was e =
    if_true (p x) (x ∷ filter p ys) (filter p ys) is ∙ ap (λ (us : List _). x ∷ us) e ∙ sym (if_true (q x) (x ∷ filter q zs) (filter q zs) was)
swap_by p q x ys zs true false is was e = e ∙ sym (if_false (q x) (x ∷ filter q zs) (filter q zs) was)
swap_by p q x ys zs false true is was e = if_false (p x) (x ∷ filter p ys) (filter p ys) is ∙ e
swap_by p q x ys zs false false is was e = e

pub filter_swap : {X : Type 0} (p q : X → Bool) (xs : List X) → filter p (filter q xs) ≡ filter q (filter p xs)
filter_swap p q [] = refl
filter_swap p q (x ∷ xs) = swap_by p q x (filter q xs) (filter p xs) (p x) (q x) refl refl (filter_swap p q xs)

pub all_filter : {X : Type 0} (P : X → Type 0) (p : X → Bool) (xs : List X) → AllByRecursion P xs → AllByRecursion P (filter p xs)
all_filter P p [] all = tt
all_filter P p (x ∷ xs) all =
    on_if (AllByRecursion P) (p x) (x ∷ filter p xs) (filter p xs) (λ e. (all.0, all_filter P p xs all.1)) (λ e. all_filter P p xs all.1)

named_by : {X : Type 0} (f : X → ℕ) (b : Bool) (x : X) (ys : List X) (ns : List ℕ) → map f ys ≡ ns → map f (cond b (x ∷ ys) ys) ≡ cond b (f x ∷ ns) ns
named_by f true x ys ns e = ap (λ (ms : List ℕ). f x ∷ ms) e
named_by f false x ys ns e = e

pub map_filter : {X : Type 0} (f : X → ℕ) (p : ℕ → Bool) (xs : List X) → map f (filter (λ x. p (f x)) xs) ≡ filter p (map f xs)
map_filter f p [] = refl
map_filter f p (x ∷ xs) = named_by f (p (f x)) x (filter (λ y. p (f y)) xs) (filter p (map f xs)) (map_filter f p xs)

-- one that does not pass, in place of one that does not pass
pub same_kept : {X : Type 0} (p : X → Bool) (xs : List X) (i : ℕ) (a b : X) → slice_get xs i ≡ Some a → p a ≡ false → p b ≡ false
    → filter p (slice_set xs i b) ≡ filter p xs
same_kept p [] i a b e off is = absurd (cc)
same_kept p (x ∷ xs) zero a b e off is =
    let same : a ≡ x = (cc) in
    if_false (p b) (b ∷ filter p xs) (filter p xs) is ∙ sym (if_false (p x) (x ∷ filter p xs) (filter p xs) (sym (ap p same) ∙ off))
same_kept p (x ∷ xs) (suc i) a b e off is = ap (λ (ys : List _). cond (p x) (x ∷ ys) ys) (same_kept p xs i a b e off is)

-- the attempt at a place, changed
abbrev pub at_place : (Attempt → Attempt) → ℕ → Attempt → Attempt
at_place f t a = if a.place == t then f a else a

above_apart : (m t : ℕ) → t < m → (m == t) ≡ false
above_apart m t h = grind (arith, nat_tests, h)

below_apart : (m t : ℕ) → m < t → (m == t) ≡ false
below_apart m t h = grind (arith, nat_tests, h)

same_place : (m t : ℕ) → m ≡ t → (m == t) ≡ true
same_place m t e = grind (arith, nat_tests, e)

none_at : (f : Attempt → Attempt) (t j : ℕ) (xs : List Attempt) → AttemptsStandInPlace j xs → t < j → map (at_place f t) xs ≡ xs
none_at f t j [] places low = refl
none_at f t j (x ∷ xs) places low =
    let place : x.place ≡ j = places.0 in
    let high : t < x.place = omega (arith, place, low) in
    let next : t < j + 1 = omega (arith, low) in
    ap (λ (y : Attempt). y ∷ map (at_place f t) xs) (if_false (x.place == t) (f x) x (above_apart x.place t high))
    ∙ ap (λ (ys : List Attempt). x ∷ ys) (none_at f t (j + 1) xs places.1 next)

changed_from : (f : Attempt → Attempt) (t k i : ℕ) (xs : List Attempt) (a : Attempt) → AttemptsStandInPlace k xs → slice_get xs i ≡ Some a → t ≡ k + i
    → slice_set xs i (f a) ≡ map (at_place f t) xs
changed_from f t k i [] a places e at = absurd (cc)
changed_from f t k zero (x ∷ xs) a places e at =
    let same : x ≡ a = (cc) in
    let place : x.place ≡ k = places.0 in
    let here : x.place ≡ t = omega (arith, place, at) in
    let low : t < k + 1 = omega (arith, at) in
    ap (λ (y : Attempt). f y ∷ xs) (sym same)
    ∙ ap (λ (y : Attempt). y ∷ xs) (sym (if_true (x.place == t) (f x) x (same_place x.place t here)))
    ∙ ap (λ (ys : List Attempt). at_place f t x ∷ ys) (sym (none_at f t (k + 1) xs places.1 low))
changed_from f t k (suc i) (x ∷ xs) a places e at =
    let place : x.place ≡ k = places.0 in
    let low : x.place < t = omega (arith, place, at) in
    let next : t ≡ k + 1 + i = omega (arith, at) in
    ap (λ (y : Attempt). y ∷ slice_set xs i (f a)) (sym (if_false (x.place == t) (f x) x (below_apart x.place t low)))
    ∙ ap (λ (ys : List Attempt). at_place f t x ∷ ys) (changed_from f t (k + 1) i xs a places.1 e next)

pub changed_at : (f : Attempt → Attempt) (t : ℕ) (xs : List Attempt) (a : Attempt) → AttemptsStandInPlace 1 xs → numbered xs t ≡ Some a
    → changed f t xs ≡ map (at_place f t) xs
changed_at f zero xs a places e = absurd (cc)
changed_at f (suc i) xs a places e =
    ap (λ (o : Option Attempt). changed_if f (suc i) xs o) e ∙ changed_from f (suc i) 1 i xs a places e (omega arith)

pub places_at : (f : Attempt → Attempt) → ((a : Attempt) → (f a).place ≡ a.place) → (t k : ℕ) (xs : List Attempt) → AttemptsStandInPlace k xs → AttemptsStandInPlace k (map (at_place f t) xs)
places_at f keeps t k [] places = tt
places_at f keeps t k (x ∷ xs) places = (
  on_if (λ (y : Attempt). y.place ≡ k) (x.place == t) (f x) x (λ e. keeps x ∙ places.0) (λ e. places.0),
  places_at f keeps t (k + 1) xs places.1,
)

-- the place of an attempt is its number
place_from : (k i : ℕ) (xs : List Attempt) (a : Attempt) → AttemptsStandInPlace k xs → slice_get xs i ≡ Some a → a.place ≡ k + i
place_from k i [] a places e = absurd (cc)
place_from k zero (x ∷ xs) a places e =
    let same : x ≡ a = (cc) in
    let place : x.place ≡ k = places.0 in
    let is : a.place ≡ k = ap (λ (b : Attempt). b.place) (sym same) ∙ place in omega (arith, is)
place_from k (suc i) (x ∷ xs) a places e =
    let rest : a.place ≡ k + 1 + i = place_from (k + 1) i xs a places.1 e in omega (arith, rest)

pub place_is : (t : ℕ) (xs : List Attempt) (a : Attempt) → AttemptsStandInPlace 1 xs → numbered xs t ≡ Some a → a.place ≡ t
place_is zero xs a places e = absurd (cc)
place_is (suc i) xs a places e = (let at : a.place ≡ 1 + i = place_from 1 i xs a places e in omega (arith, at))

-- in the order of streams
from_filter : (n : ℕ) (p : Attempt → Bool) (bs : List Attempt) → AreFrom n bs → AreFrom n (filter p bs)
from_filter n p [] are = tt
from_filter n p (b ∷ bs) are =
    on_if (AreFrom n) (p b) (b ∷ filter p bs) (filter p bs) (λ e. (are.0, from_filter n p bs are.1)) (λ e. from_filter n p bs are.1)

not_before : (m n : ℕ) → n ≤ m → nat_lt m n ≡ false
not_before m n h = grind (arith, nat_tests, h)

put_prefix : (a : Attempt) (zs : List Attempt) → AreFrom (stream_number a) zs → put_by_stream a zs ≡ a ∷ zs
put_prefix a [] are = refl
put_prefix a (z ∷ zs) are =
    if_false (nat_lt (stream_number z) (stream_number a)) (z ∷ put_by_stream a zs) (a ∷ z ∷ zs) (not_before (stream_number z) (stream_number a) are.0)

put_lost : (p : Attempt → Bool) (a : Attempt) (bs : List Attempt) → p a ≡ false → filter p (put_by_stream a bs) ≡ filter p bs
put_lost p a [] e = if_false (p a) (a ∷ []) [] e
put_lost p a (b ∷ bs) e =
    on_if (λ (xs : List Attempt). filter p xs ≡ filter p (b ∷ bs)) (nat_lt (stream_number b) (stream_number a)) (b ∷ put_by_stream a bs) (a ∷ b ∷ bs)
    (λ h. ap (λ (ys : List Attempt). cond (p b) (b ∷ ys) ys) (put_lost p a bs e))
    (λ h. if_false (p a) (a ∷ filter p (b ∷ bs)) (filter p (b ∷ bs)) e)

kept_after : (a b : Attempt) (zs us : List Attempt) (x : Bool) → nat_lt (stream_number b) (stream_number a) ≡ true → us ≡ put_by_stream a zs
    → cond x (b ∷ us) us ≡ put_by_stream a (cond x (b ∷ zs) zs)
kept_after a b zs us true less e =
    ap (λ (ys : List Attempt). b ∷ ys) e ∙ sym (if_true (nat_lt (stream_number b) (stream_number a)) (b ∷ put_by_stream a zs) (a ∷ b ∷ zs) less)
kept_after a b zs us false less e = e

put_kept : (p : Attempt → Bool) (a : Attempt) (bs : List Attempt) → p a ≡ true → AreRising bs → filter p (put_by_stream a bs) ≡ put_by_stream a (filter p bs)
put_kept p a [] e are = if_true (p a) (a ∷ []) [] e
put_kept p a (b ∷ bs) e are =
    on_if (λ (xs : List Attempt). filter p xs ≡ put_by_stream a (filter p (b ∷ bs))) (nat_lt (stream_number b) (stream_number a)) (b ∷ put_by_stream a bs) (a ∷ b ∷ bs)
    (λ h. kept_after a b (filter p bs) (filter p (put_by_stream a bs)) (p b) h (put_kept p a bs e are.1))
    (λ h.
    let low : stream_number a ≤ stream_number b = not_less (stream_number b) (stream_number a) h in
    if_true (p a) (a ∷ filter p (b ∷ bs)) (filter p (b ∷ bs)) e
    ∙ sym (put_prefix a (filter p (b ∷ bs)) (from_filter (stream_number a) p (b ∷ bs) (low, from_lower (stream_number a) (stream_number b) bs low are.0))))

sorted_by : (p : Attempt → Bool) (a : Attempt) (xs : List Attempt) (x : Bool) → p a ≡ x → by_stream (filter p xs) ≡ filter p (by_stream xs)
    → by_stream (cond x (a ∷ filter p xs) (filter p xs)) ≡ filter p (put_by_stream a (by_stream xs))
sorted_by p a xs true is e = ap (put_by_stream a) e ∙ sym (put_kept p a (by_stream xs) is (by_stream_rises xs))
sorted_by p a xs false is e = e ∙ sym (put_lost p a (by_stream xs) is)

pub by_stream_filter : (p : Attempt → Bool) (xs : List Attempt) → by_stream (filter p xs) ≡ filter p (by_stream xs)
by_stream_filter p [] = refl
by_stream_filter p (a ∷ xs) = sorted_by p a xs (p a) refl (by_stream_filter p xs)

-- streams with their attempts
pub live_without : (l : Link) (t : ℕ) (xs : List LiveStream) (others : List Attempt) → StreamsAreLive l xs others
    → StreamsAreLive l (filter (is_other_stream t) xs) (filter (is_other_attempt t) others)
live_without l t [] [] are = tt
live_without l t (x ∷ xs) (a ∷ others) are =
    let fx : List LiveStream = filter (is_other_stream t) xs in
    let fa : List Attempt = filter (is_other_attempt t) others in
    let rest : StreamsAreLive l fx fa = live_without l t xs others are.1 in
    subst (λ (c : Bool). StreamsAreLive l (cond (is_other_stream t x) (x ∷ fx) fx) (cond c (a ∷ fa) fa)) (ap (is_other t) are.0.tag)
    (both_if (StreamsAreLive l) (is_other_stream t x) (x ∷ fx) fx (a ∷ fa) fa (λ e. (are.0, rest)) (λ e. rest))
live_without l t [] (a ∷ others) are = absurd are
live_without l t (x ∷ xs) [] are = absurd are

-- their numbers and tags
opened_lower : (m first bound : ℕ) (xs : List LiveStream) → m ≤ first → StreamsAreOpened first bound xs → StreamsAreOpened m bound xs
opened_lower m first bound [] low opened = tt
opened_lower m first bound (x ∷ xs) low opened = (let from_ : first ≤ x.number = opened.0 in omega (arith, low, from_), opened.1, opened.2)

pub opened_without : (p : LiveStream → Bool) (first bound : ℕ) (xs : List LiveStream) → StreamsAreOpened first bound xs → StreamsAreOpened first bound (filter p xs)
opened_without p first bound [] opened = tt
opened_without p first bound (x ∷ xs) opened =
    let from_ : first ≤ x.number = opened.0 in
    let low : first ≤ x.number + 1 = omega (arith, from_) in
    let rest : StreamsAreOpened (x.number + 1) bound (filter p xs) = opened_without p (x.number + 1) bound xs opened.2 in
    on_if (StreamsAreOpened first bound) (p x) (x ∷ filter p xs) (filter p xs) (λ e. (opened.0, opened.1, rest)) (λ e. opened_lower first (x.number + 1) bound (filter p xs) low rest)

none_filter : (p : ℕ → Bool) (k : ℕ) (ns : List ℕ) → is_one_of ns k ≡ false → is_one_of (filter p ns) k ≡ false
none_filter p k [] e = refl
none_filter p k (n ∷ ns) e =
    let parts = none_of (n == k) (is_one_of ns k) e in
    on_if (λ (ms : List ℕ). is_one_of ms k ≡ false) (p n) (n ∷ filter p ns) (filter p ns)
    (λ h. ap (λ (b : Bool). b || is_one_of (filter p ns) k) parts.0 ∙ none_filter p k ns parts.1) (λ h. none_filter p k ns parts.1)

pub distinct_filter : (p : ℕ → Bool) (ns : List ℕ) → NumbersAreDistinct ns → NumbersAreDistinct (filter p ns)
distinct_filter p [] are = tt
distinct_filter p (n ∷ ns) are =
    on_if NumbersAreDistinct (p n) (n ∷ filter p ns) (filter p ns) (λ e. (none_filter p n ns are.0, distinct_filter p ns are.1)) (λ e. distinct_filter p ns are.1)
