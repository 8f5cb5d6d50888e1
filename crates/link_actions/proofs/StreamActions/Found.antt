-- The stream of an attempt: where it stands among the streams of its link.
use Rattle.std.proofs.Common.{◌≡◌, ◌<◌, ◌≤◌, ◌∷◌, ◌++◌, ◌||◌, ◌&&◌, ◌==◌, not, ap, arith, refl, subst, sym, ◌∙◌, Bool, true, false, List, [], Option, Some, ℕ, ◌+◌, zero, suc, filter, is_some, map, nat_lt, slice_get, slice_set}
use Rattle.std.specs.List.{list_any, remove}
use Rattle.std.proofs.lemmas.Bool.Decides.{nat_tests}
use Rattle.h2_link.specs.Steps.{found_from, is_numbered}
use Rattle.h2_link.specs.declared.live.LiveStream.{LiveStream}
use Rattle.lb_policy.specs.Table.{is_one_of}
use Rattle.link_actions.proofs.DataSent.{tag_in}
use Rattle.link_actions.proofs.Lists.{if_false, if_true, none_of, on_if}
use Rattle.link_actions.proofs.Opened.{streams}
use Rattle.link_actions.proofs.Without.{is_other, is_other_stream}
use Rattle.link_actions.specs.StreamActions.Laws.{IsOn}
use Rattle.link_actions.specs.Sees.{NumbersAreDistinct, StreamsAreLive, StreamsAreOpened, IsLive, by_stream, put_by_stream}
use Rattle.link_actions.specs.StreamActions.Sees.{ResponsesAreReceived, IsReceived}
use Rattle.session_actions.specs.Links.{stream_number}
use Rattle.session_actions.specs.Reading.{is_outstanding_on, outstanding_on}
use Rattle.session_actions.specs.Words.{numbered}
use Rattle.session_actions.specs.Writing.{streaming_on}
use Rattle.session_actions.specs.declared.attempt.Attempt.{Attempt}
use Rattle.session_actions.specs.declared.link.Link.{Link}
use Rattle.session_actions.specs.declared.seen.Seen.{Seen}

-- an attempt stands in a list
pub record IsIn (xs : List Attempt) (a : Attempt) : Type 0 where
  pub index : ℕ
  pub there : slice_get xs index ≡ Some a

in_filter : (p : Attempt → Bool) (xs : List Attempt) (i : ℕ) (a : Attempt) → slice_get xs i ≡ Some a → p a ≡ true → IsIn (filter p xs) a
in_filter p [] i a e pass = absurd (cc)
in_filter p (x ∷ xs) zero a e pass =
    let same : a ≡ x = (cc) in
    subst (λ (ys : List Attempt). IsIn ys a) (sym (if_true (p x) (x ∷ filter p xs) (filter p xs) (sym (ap p same) ∙ pass)))
    (record { index = 0; there = ap (λ (y : Attempt). Some y) (sym same) })
in_filter p (x ∷ xs) (suc i) a e pass =
    let rest : IsIn (filter p xs) a = in_filter p xs i a e pass in
    on_if (λ (ys : List Attempt). IsIn ys a) (p x) (x ∷ filter p xs) (filter p xs) (λ h. record { index = suc rest.index; there = rest.there }) (λ h. rest)

put_new : (b : Attempt) (bs : List Attempt) → IsIn (put_by_stream b bs) b
put_new b [] = record { index = 0; there = refl }
put_new b (c ∷ bs) =
    let rest : IsIn (put_by_stream b bs) b = put_new b bs in
    on_if (λ (ys : List Attempt). IsIn ys b) (nat_lt (stream_number c) (stream_number b)) (c ∷ put_by_stream b bs) (b ∷ c ∷ bs)
    (λ h. record { index = suc rest.index; there = rest.there }) (λ h. record { index = 0; there = refl })

put_old : (a b : Attempt) (bs : List Attempt) (i : ℕ) → slice_get bs i ≡ Some a → IsIn (put_by_stream b bs) a
put_old a b [] i e = absurd (cc)
put_old a b (c ∷ bs) zero e =
    on_if (λ (ys : List Attempt). IsIn ys a) (nat_lt (stream_number c) (stream_number b)) (c ∷ put_by_stream b bs) (b ∷ c ∷ bs)
    (λ h. record { index = 0; there = e }) (λ h. record { index = 1; there = e })
put_old a b (c ∷ bs) (suc i) e =
    let rest : IsIn (put_by_stream b bs) a = put_old a b bs i e in
    on_if (λ (ys : List Attempt). IsIn ys a) (nat_lt (stream_number c) (stream_number b)) (c ∷ put_by_stream b bs) (b ∷ c ∷ bs)
    (λ h. record { index = suc rest.index; there = rest.there }) (λ h. record { index = suc (suc i); there = e })

in_sorted : (xs : List Attempt) (i : ℕ) (a : Attempt) → slice_get xs i ≡ Some a → IsIn (by_stream xs) a
in_sorted [] i a e = absurd (cc)
in_sorted (x ∷ xs) zero a e =
    let same : x ≡ a = (cc) in
    subst (λ (y : Attempt). IsIn (put_by_stream x (by_stream xs)) y) same (put_new x (by_stream xs))
in_sorted (x ∷ xs) (suc i) a e =
    let rest : IsIn (by_stream xs) a = in_sorted xs i a e in put_old a x (by_stream xs) rest.index rest.there

numbered_in : (t : ℕ) (xs : List Attempt) (a : Attempt) → numbered xs t ≡ Some a → IsIn xs a
numbered_in zero xs a e = absurd (cc)
numbered_in (suc i) xs a e = record { index = i; there = e }

pub streaming_in : (l : Link) (s : Seen) (n : ℕ) (a : Attempt) → IsOn l s n a → IsIn (by_stream (streaming_on l s)) a
streaming_in l s n a on =
    let some : streams a ≡ true = ap (λ (o : Option ℕ). is_some o) on.stream in
    let here : IsIn s.attempts a = numbered_in a.place s.attempts a on.there in
    let out : IsIn (outstanding_on l s) a = in_filter (is_outstanding_on l) s.attempts here.index a here.there on.out in
    let with_stream_ : IsIn (streaming_on l s) a = in_filter streams (outstanding_on l s) out.index a out.there some in
    in_sorted (streaming_on l s) with_stream_.index a with_stream_.there

-- and its stream at the same index
pub record IsZipped (l : Link) (xs : List LiveStream) (i : ℕ) (a : Attempt) : Type 0 where
  pub stream : LiveStream
  pub there : slice_get xs i ≡ Some stream
  pub live : IsLive l stream a

pub zipped : (l : Link) (i : ℕ) (xs : List LiveStream) (others : List Attempt) (a : Attempt) → StreamsAreLive l xs others → slice_get others i ≡ Some a → IsZipped l xs i a
zipped l i [] [] a are e = absurd (cc)
zipped l zero (x ∷ xs) (b ∷ others) a are e =
    let same : b ≡ a = (cc) in
    record { stream = x; there = refl; live = subst (IsLive l x) same are.0 }
zipped l (suc i) (x ∷ xs) (b ∷ others) a are e =
    let rest : IsZipped l xs i a = zipped l i xs others a are.1 e in
    record { stream = rest.stream; there = rest.there; live = rest.live }
zipped l i [] (b ∷ others) a are e = absurd are
zipped l i (x ∷ xs) [] a are e = absurd are

pub received_at : (l : Link) (s : Seen) (i : ℕ) (xs : List LiveStream) (others : List Attempt) (y : LiveStream) (a : Attempt) → ResponsesAreReceived l s xs others
    → slice_get xs i ≡ Some y → slice_get others i ≡ Some a → IsReceived l s y a
received_at l s i [] [] y a are e h = absurd (cc)
received_at l s zero (x ∷ xs) (b ∷ others) y a are e h =
    let same : b ≡ a = (cc) in
    let is : x ≡ y = (cc) in
    subst (λ (z : LiveStream). IsReceived l s z a) is (subst (IsReceived l s x) same are.0)
received_at l s (suc i) (x ∷ xs) (b ∷ others) y a are e h = received_at l s i xs others y a are.1 e h
received_at l s i [] (b ∷ others) y a are e h = absurd are
received_at l s i (x ∷ xs) [] y a are e h = absurd are

-- it is found by its number
low_apart : (m n : ℕ) → m < n → (m == n) ≡ false
low_apart m n h = grind (arith, nat_tests, h)

high_apart : (m n : ℕ) → n < m → (m == n) ≡ false
high_apart m n h = grind (arith, nat_tests, h)

same_number : (m n : ℕ) → m ≡ n → (m == n) ≡ true
same_number m n e = grind (arith, nat_tests, e)

pub number_from : (first bound i : ℕ) (xs : List LiveStream) (y : LiveStream) → StreamsAreOpened first bound xs → slice_get xs i ≡ Some y → first ≤ y.number
number_from first bound i [] y opened e = absurd (cc)
number_from first bound zero (x ∷ xs) y opened e = subst (λ (z : LiveStream). first ≤ z.number) (let same : x ≡ y = (cc) in same) opened.0
number_from first bound (suc i) (x ∷ xs) y opened e =
    let from_ : first ≤ x.number = opened.0 in
    let next : x.number + 1 ≤ y.number = number_from (x.number + 1) bound i xs y opened.2 e in omega (arith, from_, next)

pub found_at : (n place at first bound i : ℕ) (xs : List LiveStream) (y : LiveStream) → StreamsAreOpened first bound xs → slice_get xs i ≡ Some y → y.number ≡ n → at ≡ place + i
    → found_from (is_numbered n) place xs ≡ Some (at, y)
found_at n place at first bound i [] y opened e is here = absurd (cc)
found_at n place at first bound zero (x ∷ xs) y opened e is here =
    let same : x ≡ y = (cc) in
    let number : x.number ≡ n = ap (λ (z : LiveStream). z.number) same ∙ is in
    let at_ : place ≡ at = omega (arith, here) in
    if_true (x.number == n) (Some (place, x)) (found_from (is_numbered n) (place + 1) xs) (same_number x.number n number)
    ∙ ap (λ (z : LiveStream). Some (place, z)) same ∙ ap (λ (k : ℕ). Some (k, y)) at_
found_at n place at first bound (suc i) (x ∷ xs) y opened e is here =
    let next : x.number + 1 ≤ y.number = number_from (x.number + 1) bound i xs y opened.2 e in
    let low : x.number < n = omega (arith, next, is) in
    let at_ : at ≡ place + 1 + i = omega (arith, here) in
    if_false (x.number == n) (Some (place, x)) (found_from (is_numbered n) (place + 1) xs) (low_apart x.number n low)
    ∙ found_at n (place + 1) at (x.number + 1) bound i xs y opened.2 e is at_

-- a test of the stream of a number alone
none_above : (n first bound : ℕ) (xs : List LiveStream) → StreamsAreOpened first bound xs → n < first → list_any (λ (x : LiveStream). (x.number == n) && x.head) xs ≡ false
none_above n first bound [] opened low = refl
none_above n first bound (x ∷ xs) opened low =
    let from_ : first ≤ x.number = opened.0 in
    let high : n < x.number = omega (arith, low, from_) in
    let next : n < x.number + 1 = omega (arith, high) in
    ap (λ (b : Bool). (b && x.head) || list_any (λ (y : LiveStream). (y.number == n) && y.head) xs) (high_apart x.number n high)
    ∙ none_above n (x.number + 1) bound xs opened.2 next

head_or : (b c : Bool) → c ≡ false → (b || c) ≡ b
head_or true c e = refl
head_or false c e = e

pub only_head : (n first bound i : ℕ) (xs : List LiveStream) (y : LiveStream) → StreamsAreOpened first bound xs → slice_get xs i ≡ Some y → y.number ≡ n
    → list_any (λ (x : LiveStream). (x.number == n) && x.head) xs ≡ y.head
only_head n first bound i [] y opened e is = absurd (cc)
only_head n first bound zero (x ∷ xs) y opened e is =
    let same : x ≡ y = (cc) in
    let number : x.number ≡ n = ap (λ (z : LiveStream). z.number) same ∙ is in
    let low : n < x.number + 1 = omega (arith, number) in
    let rest : list_any (λ (z : LiveStream). (z.number == n) && z.head) xs ≡ false = none_above n (x.number + 1) bound xs opened.2 low in
    ap (λ (b : Bool). (b && x.head) || list_any (λ (z : LiveStream). (z.number == n) && z.head) xs) (same_number x.number n number)
    ∙ head_or x.head _ rest ∙ ap (λ (z : LiveStream). z.head) same
only_head n first bound (suc i) (x ∷ xs) y opened e is =
    let next : x.number + 1 ≤ y.number = number_from (x.number + 1) bound i xs y opened.2 e in
    let low : x.number < n = omega (arith, next, is) in
    ap (λ (b : Bool). (b && x.head) || list_any (λ (z : LiveStream). (z.number == n) && z.head) xs) (low_apart x.number n low)
    ∙ only_head n (x.number + 1) bound i xs y opened.2 e is

-- put at its place it changes nothing
pub set_itself : (i : ℕ) (xs : List LiveStream) (y : LiveStream) → slice_get xs i ≡ Some y → slice_set xs i y ≡ xs
set_itself i [] y e = absurd (cc)
set_itself zero (x ∷ xs) y e = ap (λ (z : LiveStream). z ∷ xs) (let same : y ≡ x = (cc) in same)
set_itself (suc i) (x ∷ xs) y e = ap (λ (ys : List LiveStream). x ∷ ys) (set_itself i xs y e)

-- without it
turned : (k t : ℕ) → (k == t) ≡ false → (t == k) ≡ false
turned k t e = grind (arith, nat_tests, e)

others_kept : (t : ℕ) (xs : List LiveStream) (ns : List ℕ) → is_one_of (map (λ (z : LiveStream). z.tag) xs ++ ns) t ≡ false → filter (is_other_stream t) xs ≡ xs
others_kept t [] ns e = refl
others_kept t (x ∷ xs) ns e =
    let parts = none_of (x.tag == t) (is_one_of (map (λ (z : LiveStream). z.tag) xs ++ ns) t) e in
    if_true (is_other_stream t x) (x ∷ filter (is_other_stream t) xs) (filter (is_other_stream t) xs) (ap not parts.0)
    ∙ ap (λ (ys : List LiveStream). x ∷ ys) (others_kept t xs ns parts.1)

pub removed : (i : ℕ) (xs : List LiveStream) (y : LiveStream) (ns : List ℕ) → slice_get xs i ≡ Some y → NumbersAreDistinct (map (λ (z : LiveStream). z.tag) xs ++ ns)
    → filter (is_other_stream y.tag) xs ≡ remove xs i
removed i [] y ns e tags = absurd (cc)
removed zero (x ∷ xs) y ns e tags =
    let same : x ≡ y = (cc) in
    let tag : x.tag ≡ y.tag = ap (λ (z : LiveStream). z.tag) same in
    let rest : is_one_of (map (λ (z : LiveStream). z.tag) xs ++ ns) y.tag ≡ false
    = subst (λ (k : ℕ). is_one_of (map (λ (z : LiveStream). z.tag) xs ++ ns) k ≡ false) tag tags.0 in
    if_false (is_other_stream y.tag x) (x ∷ filter (is_other_stream y.tag) xs) (filter (is_other_stream y.tag) xs) (ap not (same_number x.tag y.tag tag))
    ∙ others_kept y.tag xs ns rest
removed (suc i) (x ∷ xs) y ns e tags =
    let apart : (x.tag == y.tag) ≡ false = turned y.tag x.tag (tag_in i xs y ns x.tag e tags.0) in
    if_true (is_other_stream y.tag x) (x ∷ filter (is_other_stream y.tag) xs) (filter (is_other_stream y.tag) xs) (ap not apart)
    ∙ ap (λ (ys : List LiveStream). x ∷ ys) (removed i xs y ns e tags.1)

pub waits_kept : (t : ℕ) (ns : List ℕ) → is_one_of ns t ≡ false → filter (is_other t) ns ≡ ns
waits_kept t [] e = refl
waits_kept t (n ∷ ns) e =
    let parts = none_of (n == t) (is_one_of ns t) e in
    if_true (is_other t n) (n ∷ filter (is_other t) ns) (filter (is_other t) ns) (ap not parts.0)
    ∙ ap (λ (ms : List ℕ). n ∷ ms) (waits_kept t ns parts.1)
