-- Which places have the attempts of a list that pass a test, where each attempt stands at its place.
use Rattle.std.proofs.Common.{◌≡◌, ◌+◌, ◌&&◌, ◌||◌, ◌==◌, ◌∷◌, ap, arith, refl, subst, sym, ◌∙◌, Bool, true, false, List, [], None, Option, Some, ℕ, zero, suc, cond, filter, if◌then◌else◌, is_none, is_some, nat_lt, slice_get}
use Rattle.std.proofs.lemmas.Bool.Decides.{nat_tests}
use Rattle.std.specs.List.{AllByRecursion}
use Rattle.frame_cases.proofs.RetiredLinks.Shapes.{is_left}
use Rattle.lb_policy.specs.Table.{is_one_of}
use Rattle.link_actions.specs.ResponseActions.Laws.{places_of}
use Rattle.link_actions.specs.Sees.{AttemptsStandInPlace, by_stream, put_by_stream}
use Rattle.link_actions.specs.StreamActions.Laws.{is_left_out, left_out}
use Rattle.session_actions.specs.Links.{stream_number}
use Rattle.session_actions.specs.Reading.{is_outstanding_on}
use Rattle.session_actions.specs.Words.{holds, numbered}
use Rattle.session_actions.specs.Writing.{streaming_on, waiting_on}
use Rattle.session_actions.specs.declared.attempt.Attempt.{Attempt}
use Rattle.session_actions.specs.declared.link.Link.{Link}
use Rattle.session_actions.specs.declared.seen.Seen.{Seen}

-- numbers
apart_below : (n k : ℕ) → nat_lt n k ≡ true → (k == n) ≡ false
apart_below n k e = grind (arith, nat_tests, e)

below_next : (n k : ℕ) → nat_lt n k ≡ true → nat_lt n (k + 1) ≡ true
below_next n k e = grind (arith, nat_tests, e)

below_one : (k : ℕ) → nat_lt (k + 0) (k + 1) ≡ true
below_one k = grind (arith, nat_tests)

same_zero : (k : ℕ) → (k == k + 0) ≡ true
same_zero k = grind (arith, nat_tests)

apart_next : (k i : ℕ) → (k == k + suc i) ≡ false
apart_next k i = grind (arith, nat_tests)

next_is : (k i : ℕ) → k + suc i ≡ k + 1 + i
next_is k i = omega arith

-- none stands below the first
none_by : (p : Attempt → Bool) (x : Attempt) (fs : List Attempt) (n : ℕ) (b : Bool) → (x.place == n) ≡ false → is_one_of (places_of fs) n ≡ false
    → is_one_of (places_of (cond b (x ∷ fs) fs)) n ≡ false
none_by p x fs n true off rest = ap (λ (c : Bool). c || is_one_of (places_of fs) n) off ∙ rest
none_by p x fs n false off rest = rest

none_below : (p : Attempt → Bool) (k n : ℕ) (xs : List Attempt) → AttemptsStandInPlace k xs → nat_lt n k ≡ true → is_one_of (places_of (filter p xs)) n ≡ false
none_below p k n [] are low = refl
none_below p k n (x ∷ xs) are low =
    none_by p x (filter p xs) n (p x) (ap (λ (j : ℕ). j == n) are.0 ∙ apart_below n k low) (none_below p (k + 1) n xs are.1 (below_next n k low))

first_by : (x : Attempt) (fs : List Attempt) (n : ℕ) (b : Bool) → (x.place == n) ≡ true → is_one_of (places_of fs) n ≡ false → is_one_of (places_of (cond b (x ∷ fs) fs)) n ≡ b
first_by x fs n true on rest = ap (λ (c : Bool). c || is_one_of (places_of fs) n) on
first_by x fs n false on rest = rest

later_by : (x : Attempt) (fs : List Attempt) (n : ℕ) (b : Bool) → (x.place == n) ≡ false → is_one_of (places_of (cond b (x ∷ fs) fs)) n ≡ is_one_of (places_of fs) n
later_by x fs n true off = ap (λ (c : Bool). c || is_one_of (places_of fs) n) off
later_by x fs n false off = refl

placed_from : (p : Attempt → Bool) (k i : ℕ) (xs : List Attempt) → AttemptsStandInPlace k xs → is_one_of (places_of (filter p xs)) (k + i) ≡ holds p (slice_get xs i)
placed_from p k i [] are = refl
placed_from p k zero (x ∷ xs) are =
    first_by x (filter p xs) (k + 0) (p x) (ap (λ (j : ℕ). j == k + 0) are.0 ∙ same_zero k) (none_below p (k + 1) (k + 0) xs are.1 (below_one k))
placed_from p k (suc i) (x ∷ xs) are =
    later_by x (filter p xs) (k + suc i) (p x) (ap (λ (j : ℕ). j == k + suc i) are.0 ∙ apart_next k i)
    ∙ ap (is_one_of (places_of (filter p xs))) (next_is k i) ∙ placed_from p (k + 1) i xs are.1

one_more : (i : ℕ) → suc i ≡ 1 + i
one_more i = omega arith

filtered_at : (p : Attempt → Bool) (xs : List Attempt) (n : ℕ) (a : Attempt) → AttemptsStandInPlace 1 xs → numbered xs n ≡ Some a → is_one_of (places_of (filter p xs)) n ≡ p a
filtered_at p xs zero a are at = absurd (cc)
filtered_at p xs (suc i) a are at = ap (is_one_of (places_of (filter p xs))) (one_more i) ∙ placed_from p 1 i xs are ∙ ap (holds p) at

-- in whichever order they stand
swapped : (a b r : Bool) → (a || (b || r)) ≡ (b || (a || r))
swapped true true r = refl
swapped true false r = refl
swapped false true r = refl
swapped false false r = refl

abbrev is_in : (Attempt → Bool) → ℕ → List Attempt → Bool
is_in p n xs = is_one_of (places_of (filter p xs)) n

abbrev in_one : (Attempt → Bool) → ℕ → Attempt → Bool
in_one p n a = p a && (a.place == n)

in_by : (n : ℕ) (a : Attempt) (fs : List Attempt) (b : Bool) → is_one_of (places_of (cond b (a ∷ fs) fs)) n ≡ ((b && (a.place == n)) || is_one_of (places_of fs) n)
in_by n a fs true = refl
in_by n a fs false = refl

in_more : (p : Attempt → Bool) (n : ℕ) (a : Attempt) (xs : List Attempt) → is_in p n (a ∷ xs) ≡ (in_one p n a || is_in p n xs)
in_more p n a xs = in_by n a (filter p xs) (p a)

put_if : (p : Attempt → Bool) (n : ℕ) (a b : Attempt) (bs : List Attempt) (c : Bool) → is_in p n (put_by_stream a bs) ≡ (in_one p n a || is_in p n bs)
    → is_in p n (if c then b ∷ put_by_stream a bs else a ∷ b ∷ bs) ≡ (in_one p n a || is_in p n (b ∷ bs))
put_if p n a b bs true rest =
    in_more p n b (put_by_stream a bs) ∙ ap (λ (r : Bool). in_one p n b || r) rest ∙ swapped (in_one p n b) (in_one p n a) (is_in p n bs)
    ∙ ap (λ (r : Bool). in_one p n a || r) (sym (in_more p n b bs))
put_if p n a b bs false rest = in_more p n a (b ∷ bs)

put_in : (p : Attempt → Bool) (n : ℕ) (a : Attempt) (bs : List Attempt) → is_in p n (put_by_stream a bs) ≡ (in_one p n a || is_in p n bs)
put_in p n a [] = in_more p n a []
put_in p n a (b ∷ bs) = put_if p n a b bs (nat_lt (stream_number b) (stream_number a)) (put_in p n a bs)

sorted_in : (p : Attempt → Bool) (n : ℕ) (xs : List Attempt) → is_in p n (by_stream xs) ≡ is_in p n xs
sorted_in p n [] = refl
sorted_in p n (a ∷ xs) = put_in p n a (by_stream xs) ∙ ap (λ (r : Bool). in_one p n a || r) (sorted_in p n xs) ∙ sym (in_more p n a xs)

-- of two tests
two_by : (p q : Attempt → Bool) (x : Attempt) (ys zs : List Attempt) (a b : Bool) → p x ≡ a → q x ≡ b → filter p ys ≡ zs → filter p (cond b (x ∷ ys) ys) ≡ cond (a && b) (x ∷ zs) zs
two_by p q x ys zs true true is was e = ap (λ (c : Bool). cond c (x ∷ filter p ys) (filter p ys)) is ∙ ap (λ (us : List Attempt). x ∷ us) e
two_by p q x ys zs true false is was e = e
two_by p q x ys zs false true is was e = ap (λ (c : Bool). cond c (x ∷ filter p ys) (filter p ys)) is ∙ e
two_by p q x ys zs false false is was e = e

filter_two : (p q : Attempt → Bool) (xs : List Attempt) → filter p (filter q xs) ≡ filter (λ (x : Attempt). p x && q x) xs
filter_two p q [] = refl
filter_two p q (x ∷ xs) = two_by p q x (filter q xs) (filter (λ (y : Attempt). p y && q y) xs) (p x) (q x) refl refl (filter_two p q xs)

-- those that wait, and those that are left out
module _ (l : Link) (s : Seen) (last : ℕ) (places : AttemptsStandInPlace 1 s.attempts) where
  abbrev with_stream : Attempt → Bool
  with_stream a = is_some a.row.stream && is_outstanding_on l a

  abbrev without_stream : Attempt → Bool
  without_stream a = is_none a.row.stream && is_outstanding_on l a

  left_out_at : (n : ℕ) (a : Attempt) → numbered s.attempts n ≡ Some a → is_one_of (places_of (left_out l s last)) n ≡ (is_left_out last a && with_stream a)
  left_out_at n a at =
      sorted_in (is_left_out last) n (streaming_on l s)
      ∙ ap (λ (xs : List Attempt). is_in (is_left_out last) n xs) (filter_two (λ (b : Attempt). is_some b.row.stream) (is_outstanding_on l) s.attempts)
      ∙ ap (λ (xs : List Attempt). is_one_of (places_of xs) n) (filter_two (is_left_out last) with_stream s.attempts)
      ∙ filtered_at (λ (b : Attempt). is_left_out last b && with_stream b) s.attempts n a places at

  waiting_at : (n : ℕ) (a : Attempt) → numbered s.attempts n ≡ Some a → is_one_of (places_of (waiting_on l s)) n ≡ without_stream a
  waiting_at n a at =
      ap (λ (xs : List Attempt). is_one_of (places_of xs) n) (filter_two (λ (b : Attempt). is_none b.row.stream) (is_outstanding_on l) s.attempts)
      ∙ filtered_at without_stream s.attempts n a places at

  sum_by : (o : Option ℕ) (out low : Bool) → ((is_none o && out) || ((low && (is_some o && out)) || false)) ≡ (out && (is_none o || low))
  sum_by None true true = refl
  sum_by None true false = refl
  sum_by None false true = refl
  sum_by None false false = refl
  sum_by (Some n) true true = refl
  sum_by (Some n) true false = refl
  sum_by (Some n) false true = refl
  sum_by (Some n) false false = refl

  pub all_left_at : (n : ℕ) (a : Attempt) → numbered s.attempts n ≡ Some a
      → (is_one_of (places_of (waiting_on l s)) n || (is_one_of (places_of (left_out l s last)) n || false)) ≡ is_left l last a
  all_left_at n a at =
      ap (λ (b : Bool). b || (is_one_of (places_of (left_out l s last)) n || false)) (waiting_at n a at)
      ∙ ap (λ (b : Bool). without_stream a || (b || false)) (left_out_at n a at)
      ∙ sum_by a.row.stream (is_outstanding_on l a) (is_left_out last a)

-- what is so of those that pass
each_if : {X : Type 0} (Q : X → Type 0) (x : X) (fs : List X) (b : Bool) → (b ≡ true → Q x) → AllByRecursion Q fs → AllByRecursion Q (cond b (x ∷ fs) fs)
each_if Q x fs true one all = (one refl, all)
each_if Q x fs false one all = all

pub each_passes : {X : Type 0} (P Q : X → Type 0) (p : X → Bool) → ((x : X) → P x → p x ≡ true → Q x) → (xs : List X) → AllByRecursion P xs → AllByRecursion Q (filter p xs)
each_passes P Q p is [] all = tt
each_passes P Q p is (x ∷ xs) all = each_if Q x (filter p xs) (p x) (is x all.0) (each_passes P Q p is xs all.1)

put_if_each : (P : Attempt → Type 0) (a b : Attempt) (bs : List Attempt) (c : Bool) → P a → AllByRecursion P (b ∷ bs) → AllByRecursion P (put_by_stream a bs)
    → AllByRecursion P (if c then b ∷ put_by_stream a bs else a ∷ b ∷ bs)
put_if_each P a b bs true one all rest = (all.0, rest)
put_if_each P a b bs false one all rest = (one, all)

put_each : (P : Attempt → Type 0) (a : Attempt) (bs : List Attempt) → P a → AllByRecursion P bs → AllByRecursion P (put_by_stream a bs)
put_each P a [] one all = (one, tt)
put_each P a (b ∷ bs) one all = put_if_each P a b bs (nat_lt (stream_number b) (stream_number a)) one all (put_each P a bs one all.1)

pub each_sorted : (P : Attempt → Type 0) (xs : List Attempt) → AllByRecursion P xs → AllByRecursion P (by_stream xs)
each_sorted P [] all = tt
each_sorted P (a ∷ xs) all = put_each P a (by_stream xs) all.0 (each_sorted P xs all.1)

-- each stands at its place
there_from : (whole : List Attempt) (k : ℕ) (xs : List Attempt) → ((j : ℕ) → slice_get whole (k + j) ≡ slice_get xs j) → AttemptsStandInPlace (k + 1) xs
    → AllByRecursion (λ (a : Attempt). numbered whole a.place ≡ Some a) xs
there_from whole k [] same are = tt
there_from whole k (x ∷ xs) same are =
    let place : x.place ≡ suc k = (let at : x.place ≡ k + 1 = are.0 in omega (arith, at)) in
    let here : slice_get whole k ≡ Some x = ap (slice_get whole) (let none : k ≡ k + 0 = omega arith in none) ∙ same 0 in (
      ap (numbered whole) place ∙ here,
      there_from whole (k + 1) xs (λ j. ap (slice_get whole) (let next : k + 1 + j ≡ k + suc j = omega arith in next) ∙ same (suc j)) are.1,
    )

pub each_there : (xs : List Attempt) → AttemptsStandInPlace 1 xs → AllByRecursion (λ (a : Attempt). numbered xs a.place ≡ Some a) xs
each_there xs are =
    let o : ℕ = 0 in
    let one : o + 1 ≡ 1 = refl in
    there_from xs o xs (λ j. ap (slice_get xs) (let none : o + j ≡ j = omega arith in none)) (subst (λ (n : ℕ). AttemptsStandInPlace n xs) (sym one) are)
