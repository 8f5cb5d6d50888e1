-- An attempt is placed on a link: it waits there for a stream, by its place.
use Rattle.std.proofs.Common.{◌≡◌, ◌<◌, ◌∷◌, ◌++◌, ◌||◌, ◌&&◌, ◌==◌, ap, arith, refl, subst, sym, ◌∙◌, Bool, true, false, List, [], Option, None, Some, ℕ, ◌+◌, zero, suc, cond, filter, if◌then◌else◌, is_none, is_some, map, slice_get}
use Rattle.std.specs.BTreeSet.{insert_key}
use Rattle.std.specs.Cmp.{nat_cmp_is}
use Rattle.std.specs.List.{AllByRecursion}
use Rattle.std.specs.Option.{option_map_or}
use Rattle.std.specs.Ordering.{match_ordering, nat_cmp}
use Rattle.std.specs.declared.cmp.Ordering.{Ordering}
use Rattle.std.specs.declared.cmp.Ordering.TheVariants as ordering
use Rattle.std.proofs.lemmas.Bool.{eqb-true}
use Rattle.std.proofs.lemmas.Bool.Decides.{nat_tests}
use Rattle.attempt_ledger.specs.declared.row.Placed.{Placed}
use Rattle.attempt_ledger.specs.declared.row.RowEnd.{RowEnd}
use Rattle.h2_link.specs.Feeds.{Line}
use Rattle.h2_link.specs.Steps.{placed}
use Rattle.h2_link.specs.Wire.{Wire}
use Rattle.h2_link.specs.declared.live.LiveStream.{LiveStream}
use Rattle.lb_policy.specs.Table.{is_one_of}
use Rattle.link_actions.proofs.Lists.{if_false, if_true, none_of, on_if}
use Rattle.link_actions.proofs.Opened.{put_all, streams, waits}
use Rattle.link_actions.proofs.Without.{all_filter, at_place, changed_at, places_at}
use Rattle.link_actions.proofs.Written.{changed_here}
use Rattle.link_actions.specs.Sees.{NumbersAreDistinct, StreamsAreFed, StreamsAreLive, AttemptsStandInPlace, IsFed, by_stream}
use Rattle.link_actions.proofs.LossActions.Losses.{all_there}
use Rattle.session_actions.specs.Attempts.{with_attempt}
use Rattle.session_actions.specs.Calls.{marked}
use Rattle.session_actions.specs.Policies.{attempt_placed, with_placing}
use Rattle.session_actions.specs.Reading.{is_outstanding_on, outstanding_on}
use Rattle.session_actions.specs.Words.{changed, holds, numbered}
use Rattle.session_actions.specs.Writing.{streaming_on, waiting_on}
use Rattle.session_actions.specs.declared.attempt.Attempt.{Attempt}
use Rattle.session_actions.specs.declared.call.MarkKind.TheVariants as mark
use Rattle.session_actions.specs.declared.link.Link.{Link}
use Rattle.session_actions.specs.declared.seen.Seen.{Seen}
use Rattle.link_actions.proofs.SteadyLinks.Calls.{AreAllFed, all_are_fed, marked_left}
use Rattle.link_actions.specs.SteadyLinks.Laws.{CanPlace, PlacingsKeep}
use Rattle.link_actions.specs.StreamActions.Sees.{ResponsesAreReceived, SeesStreams}

-- the attempt of a place is this one
abbrev IsOnly : ℕ → Attempt → Attempt → Type 0
IsOnly k a x = (x.place == k) ≡ true → x ≡ a

only_by : (s : Seen) (k : ℕ) (a : Attempt) (xs : List Attempt) → numbered s.attempts k ≡ Some a → AllByRecursion (λ x. numbered s.attempts x.place ≡ Some x) xs → AllByRecursion (IsOnly k a) xs
only_by s k a [] there all = tt
only_by s k a (x ∷ xs) there all = (
  λ e. (
      let at : x.place ≡ k = eqb-true x.place k e in
      let same : Some x ≡ Some a = sym all.0 ∙ ap (numbered s.attempts) at ∙ there in
      (let one : x ≡ a = (cc) in one)),
  only_by s k a xs there all.1,
)

-- before it was on no link; now it is on this one
off_before : (l : Link) (a : Attempt) → a.row.placed ≡ None → is_outstanding_on l a ≡ false
off_before l a none = ap (λ (o : Option Placed). (is_some o && is_none a.row.ended) && holds (λ (x : Placed). x.link == l.number) o) none

on_after : (l : Link) (a : Attempt) (at : Placed) → a.row.ended ≡ None → at.link ≡ l.number → is_outstanding_on l (with_placing at a) ≡ true
on_after l a at going link =
    let yes : (at.link == l.number) ≡ true = grind (arith, nat_tests, link) in
    ap (λ (o : Option RowEnd). (true && is_none o) && (at.link == l.number)) going ∙ yes

-- those that have a stream stay
streams_by : (l : Link) (k : ℕ) (a x : Attempt) (at : Placed) (ys zs : List Attempt) (b : Bool) → (x.place == k) ≡ b → IsOnly k a x → CanPlace l a at
    → filter streams (filter (is_outstanding_on l) ys) ≡ filter streams (filter (is_outstanding_on l) zs)
    → filter streams (filter (is_outstanding_on l) ((if b then with_placing at x else x) ∷ ys)) ≡ filter streams (filter (is_outstanding_on l) (x ∷ zs))
streams_by l k a x at ys zs true is only can rest =
    let one : x ≡ a = only is in
    let out : is_outstanding_on l (with_placing at x) ≡ true = ap (λ (y : Attempt). is_outstanding_on l (with_placing at y)) one ∙ on_after l a at can.going can.link in
    let off : is_outstanding_on l x ≡ false = ap (is_outstanding_on l) one ∙ off_before l a can.unplaced in
    let no_stream : streams (with_placing at x) ≡ false = ap (λ (y : Attempt). is_some y.row.stream) one ∙ ap (λ (o : Option ℕ). is_some o) can.streamless in
    let fy : List Attempt = filter (is_outstanding_on l) ys in
    let fz : List Attempt = filter (is_outstanding_on l) zs in
    ap (filter streams) (if_true (is_outstanding_on l (with_placing at x)) (with_placing at x ∷ fy) fy out)
    ∙ if_false (streams (with_placing at x)) (with_placing at x ∷ filter streams fy) (filter streams fy) no_stream
    ∙ rest ∙ sym (ap (filter streams) (if_false (is_outstanding_on l x) (x ∷ fz) fz off))
streams_by l k a x at ys zs false is only can rest =
    let fy : List Attempt = filter (is_outstanding_on l) ys in
    let fz : List Attempt = filter (is_outstanding_on l) zs in
    on_if (λ (us : List Attempt). filter streams (filter (is_outstanding_on l) (x ∷ ys)) ≡ filter streams us) (is_outstanding_on l x) (x ∷ fz) fz
    (λ e. ap (filter streams) (if_true (is_outstanding_on l x) (x ∷ fy) fy e) ∙ ap (λ (us : List Attempt). cond (streams x) (x ∷ us) us) rest)
    (λ e. ap (filter streams) (if_false (is_outstanding_on l x) (x ∷ fy) fy e) ∙ rest)

streams_stay : (l : Link) (k : ℕ) (a : Attempt) (at : Placed) (xs : List Attempt) → AllByRecursion (IsOnly k a) xs → CanPlace l a at
    → filter streams (filter (is_outstanding_on l) (map (at_place (with_placing at) k) xs)) ≡ filter streams (filter (is_outstanding_on l) xs)
streams_stay l k a at [] only can = refl
streams_stay l k a at (x ∷ xs) only can =
    streams_by l k a x at (map (at_place (with_placing at) k) xs) xs (x.place == k) refl only.0 can (streams_stay l k a at xs only.1 can)

-- those that wait are one more, by place
abbrev places : List Attempt → List ℕ
places xs = map (λ (x : Attempt). x.place) xs

abbrev wait_in : Link → List Attempt → List Attempt
wait_in l xs = filter waits (filter (is_outstanding_on l) xs)

abbrev AreAbove : ℕ → List ℕ → Type 0
AreAbove k ns = AllByRecursion (λ n. k < n) ns

less_cmp : (k n : ℕ) → k < n → nat_cmp k n ≡ ordering.Less
less_cmp k n h = sym (nat_cmp_is k n ordering.Less h)

more_cmp : (k n : ℕ) → n < k → nat_cmp k n ≡ ordering.Greater
more_cmp k n h = sym (nat_cmp_is k n ordering.Greater h)

insert_first : (k : ℕ) (ns : List ℕ) → AreAbove k ns → insert_key nat_cmp ns k ≡ k ∷ ns
insert_first k [] above = refl
insert_first k (n ∷ ns) above = ap (λ (o : Ordering). match_ordering o (k ∷ n ∷ ns) (n ∷ ns) (n ∷ insert_key nat_cmp ns k)) (less_cmp k n above.0)

insert_later : (k n : ℕ) (ns : List ℕ) → n < k → insert_key nat_cmp (n ∷ ns) k ≡ n ∷ insert_key nat_cmp ns k
insert_later k n ns h = ap (λ (o : Ordering). match_ordering o (k ∷ n ∷ ns) (n ∷ ns) (n ∷ insert_key nat_cmp ns k)) (more_cmp k n h)

above_by : (l : Link) (k j : ℕ) (xs : List Attempt) → AttemptsStandInPlace j xs → k < j → AreAbove k (places (wait_in l xs))
above_by l k j [] placed_ low = tt
above_by l k j (x ∷ xs) placed_ low =
    let at : x.place ≡ j = placed_.0 in
    let here : k < x.place = omega (arith, at, low) in
    let next : k < j + 1 = omega (arith, low) in
    let rest : AreAbove k (places (wait_in l xs)) = above_by l k (j + 1) xs placed_.1 next in
    on_if (λ (us : List Attempt). AreAbove k (places (filter waits us))) (is_outstanding_on l x) (x ∷ filter (is_outstanding_on l) xs) (filter (is_outstanding_on l) xs)
    (λ e. on_if (λ (us : List Attempt). AreAbove k (places us)) (waits x) (x ∷ wait_in l xs) (wait_in l xs) (λ h. (here, rest)) (λ h. rest))
    (λ e. rest)

none_changed : (f : Attempt → Attempt) (t j : ℕ) (xs : List Attempt) → AttemptsStandInPlace j xs → t < j → map (at_place f t) xs ≡ xs
none_changed f t j [] placed_ low = refl
none_changed f t j (x ∷ xs) placed_ low =
    let at : x.place ≡ j = placed_.0 in
    let high : t < x.place = omega (arith, at, low) in
    let next : t < j + 1 = omega (arith, low) in
    let apart : (x.place == t) ≡ false = grind (arith, nat_tests, high) in
    ap (λ (y : Attempt). y ∷ map (at_place f t) xs) (if_false (x.place == t) (f x) x apart) ∙ ap (λ (ys : List Attempt). x ∷ ys) (none_changed f t (j + 1) xs placed_.1 next)

waits_more : (l : Link) (k j i : ℕ) (a : Attempt) (at : Placed) (xs : List Attempt) → AttemptsStandInPlace j xs → slice_get xs i ≡ Some a → k ≡ j + i → CanPlace l a at
    → places (wait_in l (map (at_place (with_placing at) k) xs)) ≡ insert_key nat_cmp (places (wait_in l xs)) k
waits_more l k j i a at [] placed_ there here can = absurd (let no : ⊥ = (cc) in no)
waits_more l k j zero a at (x ∷ xs) placed_ there here can =
    let one : x ≡ a = (cc) in
    let f : Attempt → Attempt = with_placing at in
    let place : x.place ≡ j = placed_.0 in
    let same : x.place ≡ k = omega (arith, place, here) in
    let yes : (x.place == k) ≡ true = grind (arith, nat_tests, same) in
    let low : k < j + 1 = omega (arith, here) in
    let rest : map (at_place f k) xs ≡ xs = none_changed f k (j + 1) xs placed_.1 low in
    let out : is_outstanding_on l (f x) ≡ true = ap (λ (y : Attempt). is_outstanding_on l (f y)) one ∙ on_after l a at can.going can.link in
    let off : is_outstanding_on l x ≡ false = ap (is_outstanding_on l) one ∙ off_before l a can.unplaced in
    let wait : waits (f x) ≡ true = ap (λ (y : Attempt). is_none y.row.stream) one ∙ ap (λ (o : Option ℕ). is_none o) can.streamless in
    let fx : List Attempt = filter (is_outstanding_on l) xs in
    ap (λ (ys : List Attempt). places (wait_in l ((if x.place == k then f x else x) ∷ ys))) rest
    ∙ ap (λ (b : Bool). places (wait_in l ((if b then f x else x) ∷ xs))) yes
    ∙ ap (λ (us : List Attempt). places (filter waits us)) (if_true (is_outstanding_on l (f x)) (f x ∷ fx) fx out)
    ∙ ap places (if_true (waits (f x)) (f x ∷ filter waits fx) (filter waits fx) wait)
    ∙ ap (λ (n : ℕ). n ∷ places (wait_in l xs)) same
    ∙ sym (ap (λ (us : List Attempt). insert_key nat_cmp (places (filter waits us)) k) (if_false (is_outstanding_on l x) (x ∷ fx) fx off)
    ∙ insert_first k (places (wait_in l xs)) (above_by l k (j + 1) xs placed_.1 low))
waits_more l k j (suc i) a at (x ∷ xs) placed_ there here can =
    let f : Attempt → Attempt = with_placing at in
    let place : x.place ≡ j = placed_.0 in
    let low : x.place < k = omega (arith, place, here) in
    let apart : (x.place == k) ≡ false = grind (arith, nat_tests, low) in
    let next : k ≡ j + 1 + i = omega (arith, here) in
    let rest : places (wait_in l (map (at_place f k) xs)) ≡ insert_key nat_cmp (places (wait_in l xs)) k = waits_more l k (j + 1) i a at xs placed_.1 there next can in
    let ys : List Attempt = map (at_place f k) xs in
    let fy : List Attempt = filter (is_outstanding_on l) ys in
    let fx : List Attempt = filter (is_outstanding_on l) xs in
    ap (λ (b : Bool). places (wait_in l ((if b then f x else x) ∷ ys))) apart
    ∙ on_if (λ (us : List Attempt). places (wait_in l (x ∷ ys)) ≡ insert_key nat_cmp (places (filter waits us)) k) (is_outstanding_on l x) (x ∷ fx) fx
    (λ e. ap (λ (us : List Attempt). places (filter waits us)) (if_true (is_outstanding_on l x) (x ∷ fy) fy e)
    ∙ on_if (λ (us : List Attempt). places (filter waits (x ∷ fy)) ≡ insert_key nat_cmp (places us) k) (waits x) (x ∷ filter waits fx) (filter waits fx)
    (λ h. ap places (if_true (waits x) (x ∷ filter waits fy) (filter waits fy) h) ∙ ap (λ (ns : List ℕ). x.place ∷ ns) rest ∙ sym (insert_later k x.place (places (filter waits fx)) low))
    (λ h. ap places (if_false (waits x) (x ∷ filter waits fy) (filter waits fy) h) ∙ rest))
    (λ e. ap (λ (us : List Attempt). places (filter waits us)) (if_false (is_outstanding_on l x) (x ∷ fy) fy e) ∙ rest)

index_of : (l : Link) (k : ℕ) (a : Attempt) (at : Placed) (xs : List Attempt) → AttemptsStandInPlace 1 xs → numbered xs k ≡ Some a → CanPlace l a at
    → places (wait_in l (map (at_place (with_placing at) k) xs)) ≡ insert_key nat_cmp (places (wait_in l xs)) k
index_of l zero a at xs placed_ there can = absurd (let no : ⊥ = (cc) in no)
index_of l (suc i) a at xs placed_ there can = waits_more l (suc i) 1 i a at xs placed_ there (omega arith) can

-- tags stay distinct
absent_by : (k m n : ℕ) (ns : List ℕ) (o : Ordering) → (k == n) ≡ false → is_one_of (m ∷ ns) n ≡ false → is_one_of (insert_key nat_cmp ns k) n ≡ false
    → is_one_of (match_ordering o (k ∷ m ∷ ns) (m ∷ ns) (m ∷ insert_key nat_cmp ns k)) n ≡ false
absent_by k m n ns ordering.Less apart none rest = ap (λ (b : Bool). b || is_one_of (m ∷ ns) n) apart ∙ none
absent_by k m n ns ordering.Equal apart none rest = none
absent_by k m n ns ordering.Greater apart none rest =
    (let parts = none_of (m == n) (is_one_of ns n) none in ap (λ (b : Bool). b || is_one_of (insert_key nat_cmp ns k) n) parts.0 ∙ rest)

absent : (k : ℕ) (n : ℕ) (ns : List ℕ) → is_one_of ns n ≡ false → (k == n) ≡ false → is_one_of (insert_key nat_cmp ns k) n ≡ false
absent k n [] none apart = ap (λ (b : Bool). b || false) apart
absent k n (m ∷ ns) none apart =
    let parts = none_of (m == n) (is_one_of ns n) none in absent_by k m n ns (nat_cmp k m) apart none (absent k n ns parts.1 apart)

turned : (k t : ℕ) → (k == t) ≡ false → (t == k) ≡ false
turned k t e = grind (arith, nat_tests, e)

distinct_by : (k m : ℕ) (ns : List ℕ) (o : Ordering) → NumbersAreDistinct (m ∷ ns) → is_one_of (m ∷ ns) k ≡ false → NumbersAreDistinct (insert_key nat_cmp ns k)
    → NumbersAreDistinct (match_ordering o (k ∷ m ∷ ns) (m ∷ ns) (m ∷ insert_key nat_cmp ns k))
distinct_by k m ns ordering.Less all none rest = (none, all)
distinct_by k m ns ordering.Equal all none rest = all
distinct_by k m ns ordering.Greater all none rest =
    (let parts = none_of (m == k) (is_one_of ns k) none in (absent k m ns all.0 (turned m k parts.0), rest))

distinct_more : (k : ℕ) (ns : List ℕ) → NumbersAreDistinct ns → is_one_of ns k ≡ false → NumbersAreDistinct (insert_key nat_cmp ns k)
distinct_more k [] all none = (refl, tt)
distinct_more k (m ∷ ns) all none =
    let parts = none_of (m == k) (is_one_of ns k) none in distinct_by k m ns (nat_cmp k m) all none (distinct_more k ns all.1 parts.1)

absent_after : (k n : ℕ) (us vs : List ℕ) → is_one_of (us ++ vs) n ≡ false → (k == n) ≡ false → is_one_of (us ++ insert_key nat_cmp vs k) n ≡ false
absent_after k n [] vs none apart = absent k n vs none apart
absent_after k n (u ∷ us) vs none apart =
    let parts = none_of (u == n) (is_one_of (us ++ vs) n) none in
    ap (λ (b : Bool). b || is_one_of (us ++ insert_key nat_cmp vs k) n) parts.0 ∙ absent_after k n us vs parts.1 apart

distinct_after : (k : ℕ) (us vs : List ℕ) → NumbersAreDistinct (us ++ vs) → is_one_of (us ++ vs) k ≡ false → NumbersAreDistinct (us ++ insert_key nat_cmp vs k)
distinct_after k [] vs all none = distinct_more k vs all none
distinct_after k (u ∷ us) vs all none =
    let parts = none_of (u == k) (is_one_of (us ++ vs) k) none in
    (absent_after k u us vs all.0 (turned u k parts.0), distinct_after k us vs all.1 parts.1)

-- none of them is that of the place
never_here : (k : ℕ) (as_ : List Attempt) → AllByRecursion (λ (a : Attempt). (a.place == k) ≡ false) as_ → is_one_of (places as_) k ≡ false
never_here k [] all = refl
never_here k (a ∷ as_) all = ap (λ (b : Bool). b || is_one_of (places as_) k) all.0 ∙ never_here k as_ all.1

never_live : (l : Link) (k : ℕ) (xs : List LiveStream) (as_ : List Attempt) → StreamsAreLive l xs as_ → AllByRecursion (λ (a : Attempt). (a.place == k) ≡ false) as_ → is_one_of (map (λ (x : LiveStream). x.tag) xs) k ≡ false
never_live l k [] [] live all = refl
never_live l k (x ∷ xs) (a ∷ as_) live all =
    ap (λ (n : ℕ). (n == k) || is_one_of (map (λ (y : LiveStream). y.tag) xs) k) live.0.tag ∙ ap (λ (b : Bool). b || is_one_of (map (λ (y : LiveStream). y.tag) xs) k) all.0 ∙ never_live l k xs as_ live.1 all.1
never_live l k [] (a ∷ as_) live all = absurd live
never_live l k (x ∷ xs) [] live all = absurd live

both_none : (k : ℕ) (us vs : List ℕ) → is_one_of us k ≡ false → is_one_of vs k ≡ false → is_one_of (us ++ vs) k ≡ false
both_none k [] vs e h = h
both_none k (u ∷ us) vs e h = (let parts = none_of (u == k) (is_one_of us k) e in ap (λ (b : Bool). b || is_one_of (us ++ vs) k) parts.0 ∙ both_none k us vs parts.1 h)

-- an attempt on the link has another place
both_ways : (b : Bool) → b ≡ true → b ≡ false → ⊥
both_ways true e h = (cc)
both_ways false e h = (cc)

other_by : (l : Link) (k : ℕ) (a x : Attempt) (b : Bool) → (x.place == k) ≡ b → IsOnly k a x → is_outstanding_on l a ≡ false → is_outstanding_on l x ≡ true → b ≡ false
other_by l k a x true is only off out = absurd (both_ways (is_outstanding_on l x) out (ap (is_outstanding_on l) (only is) ∙ off))
other_by l k a x false is only off out = refl

others_out : (l : Link) (k : ℕ) (a : Attempt) (xs : List Attempt) → AllByRecursion (IsOnly k a) xs → is_outstanding_on l a ≡ false
    → AllByRecursion (λ (x : Attempt). (x.place == k) ≡ false) (filter (is_outstanding_on l) xs)
others_out l k a [] only off = tt
others_out l k a (x ∷ xs) only off =
    let rest : AllByRecursion (λ (y : Attempt). (y.place == k) ≡ false) (filter (is_outstanding_on l) xs) = others_out l k a xs only.1 off in
    on_if (AllByRecursion (λ (y : Attempt). (y.place == k) ≡ false)) (is_outstanding_on l x) (x ∷ filter (is_outstanding_on l) xs) (filter (is_outstanding_on l) xs)
    (λ e. (other_by l k a x (x.place == k) refl only.0 off e, rest)) (λ e. rest)

all_sorted : (P : Attempt → Type 0) (xs : List Attempt) → AllByRecursion P xs → AllByRecursion P (by_stream xs)
all_sorted P [] all = tt
all_sorted P (a ∷ xs) all = put_all P a (by_stream xs) all.0 (all_sorted P xs all.1)

-- what they are fed with
again : (l : Link) (s : Seen) (as_ : List Attempt) (b : Attempt) (line : Line) → IsFed l s b line → IsFed l (record s { attempts = as_ }) b line
again l s as_ b line is = record { call = is.call; call_is = is.call_is; fields = is.fields; written = is.written; left = is.left; finished = is.finished }

again_placed : (l : Link) (s : Seen) (as_ : List Attempt) (b : Attempt) (at : Placed) (line : Line) → IsFed l s b line → IsFed l (record s { attempts = as_ }) (with_placing at b) line
again_placed l s as_ b at line is = record { call = is.call; call_is = is.call_is; fields = is.fields; written = is.written; left = is.left; finished = is.finished }

fed_again : (l : Link) (s : Seen) (g h : ℕ → Line) (k : ℕ) (ns : List Attempt) (xs : List LiveStream) (as_ : List Attempt) → ((j : ℕ) → (j == k) ≡ false → h j ≡ g j) → StreamsAreLive l xs as_
    → AllByRecursion (λ (a : Attempt). (a.place == k) ≡ false) as_ → StreamsAreFed l s g xs as_ → StreamsAreFed l (record s { attempts = ns }) h xs as_
fed_again l s g h k ns [] [] same live others fed_ = tt
fed_again l s g h k ns (x ∷ xs) (a ∷ as_) same live others fed_ =
    let apart : (x.tag == k) ≡ false = ap (λ (n : ℕ). n == k) live.0.tag ∙ others.0 in (
      subst (λ (line : Line). IsFed l (record s { attempts = ns }) a line) (sym (same x.tag apart)) (again l s ns a (g x.tag) fed_.0),
      fed_again l s g h k ns xs as_ same live.1 others.1 fed_.1,
    )
fed_again l s g h k ns [] (a ∷ as_) same live others fed_ = absurd live
fed_again l s g h k ns (x ∷ xs) [] same live others fed_ = absurd live

received_again : (l : Link) (s : Seen) (ns : List Attempt) (xs : List LiveStream) (as_ : List Attempt) → ResponsesAreReceived l s xs as_ → ResponsesAreReceived l (record s { attempts = ns }) xs as_
received_again l s ns [] [] are = tt
received_again l s ns (x ∷ xs) (a ∷ as_) are = (record { head = are.0.head; goes = are.0.goes; small = are.0.small }, received_again l s ns xs as_ are.1)
received_again l s ns [] (a ∷ as_) are = absurd are
received_again l s ns (x ∷ xs) [] are = absurd are

one_fed : (l : Link) (s : Seen) (g h : ℕ → Line) (k : ℕ) (a x : Attempt) (at : Placed) (ns : List Attempt) (b : Bool) → (x.place == k) ≡ b → IsOnly k a x → ((j : ℕ) → (j == k) ≡ false → h j ≡ g j)
    → IsFed l s a (h k) → (is_outstanding_on l x ≡ true → IsFed l s x (g x.place))
    → is_outstanding_on l (if b then with_placing at x else x) ≡ true → IsFed l (record s { attempts = ns }) (if b then with_placing at x else x) (h (if b then with_placing at x else x).place)
one_fed l s g h k a x at ns true is only same own fed_ out =
    let e : x.place ≡ k = eqb-true x.place k is in
    subst (λ (n : ℕ). IsFed l (record s { attempts = ns }) (with_placing at x) (h n)) (sym e)
    (again_placed l s ns x at (h k) (subst (λ (y : Attempt). IsFed l s y (h k)) (sym (only is)) own))
one_fed l s g h k a x at ns false is only same own fed_ out =
    subst (λ (line : Line). IsFed l (record s { attempts = ns }) x line) (sym (same x.place is)) (again l s ns x (g x.place) (fed_ out))

all_fed : (l : Link) (s : Seen) (g h : ℕ → Line) (k : ℕ) (a : Attempt) (at : Placed) (ns xs : List Attempt) → AllByRecursion (IsOnly k a) xs → ((j : ℕ) → (j == k) ≡ false → h j ≡ g j)
    → IsFed l s a (h k) → AreAllFed l s g xs
    → AllByRecursion (λ (b : Attempt). IsFed l (record s { attempts = ns }) b (h b.place)) (filter (is_outstanding_on l) (map (at_place (with_placing at) k) xs))
all_fed l s g h k a at ns [] only same own fed_ = tt
all_fed l s g h k a at ns (x ∷ xs) only same own fed_ =
    let F : Attempt → Type 0 = λ b. IsFed l (record s { attempts = ns }) b (h b.place) in
    let y : Attempt = at_place (with_placing at) k x in
    let rest = all_fed l s g h k a at ns xs only.1 same own fed_.1 in
    on_if (AllByRecursion F) (is_outstanding_on l y) (y ∷ filter (is_outstanding_on l) (map (at_place (with_placing at) k) xs)) (filter (is_outstanding_on l) (map (at_place (with_placing at) k) xs))
    (λ e. (one_fed l s g h k a x at ns (x.place == k) refl only.0 same own fed_.0 e, rest)) (λ e. rest)

-- it is placed
placed_here : (l : Link) (s : Seen) (w : Wire) (g h : ℕ → Line) (k : ℕ) (a : Attempt) (at : Placed) → SeesStreams l s w g → numbered s.attempts k ≡ Some a → CanPlace l a at
    → ((j : ℕ) → (j == k) ≡ false → h j ≡ g j) → IsFed l s a (h k)
    → SeesStreams l (record s { attempts = map (at_place (with_placing at) k) s.attempts }) (placed w k) h
placed_here l s w g h k a at is there can same own =
    let ns : List Attempt = map (at_place (with_placing at) k) s.attempts in
    let u : Seen = record s { attempts = ns } in
    let only : AllByRecursion (IsOnly k a) s.attempts = only_by s k a s.attempts there (all_there s is.sees.places) in
    let off : is_outstanding_on l a ≡ false = off_before l a can.unplaced in
    let others : AllByRecursion (λ (x : Attempt). (x.place == k) ≡ false) (outstanding_on l s) = others_out l k a s.attempts only off in
    let bs : List Attempt = by_stream (streaming_on l s) in
    let stay : by_stream (streaming_on l u) ≡ bs = ap by_stream (streams_stay l k a at s.attempts only can) in
    let apart : AllByRecursion (λ (x : Attempt). (x.place == k) ≡ false) bs
    = all_sorted (λ (x : Attempt). (x.place == k) ≡ false) (streaming_on l s) (all_filter (λ (x : Attempt). (x.place == k) ≡ false) streams (outstanding_on l s) others) in
    let wait_apart : AllByRecursion (λ (x : Attempt). (x.place == k) ≡ false) (waiting_on l s) = all_filter (λ (x : Attempt). (x.place == k) ≡ false) waits (outstanding_on l s) others in
    let waiting : insert_key nat_cmp w.waiting k ≡ places (waiting_on l u) = ap (λ (ks : List ℕ). insert_key nat_cmp ks k) is.sees.waits ∙ sym (index_of l k a at s.attempts is.sees.places there can) in
    let none : is_one_of (map (λ (x : LiveStream). x.tag) w.live ++ w.waiting) k ≡ false
    = both_none k (map (λ (x : LiveStream). x.tag) w.live) w.waiting (never_live l k w.live bs is.sees.sees.live apart)
    (ap (λ (ks : List ℕ). is_one_of ks k) is.sees.waits ∙ never_here k (waiting_on l s) wait_apart) in
    let fed_ : AllByRecursion (λ (b : Attempt). IsFed l u b (h b.place)) (outstanding_on l u) = all_fed l s g h k a at ns s.attempts only same own (all_are_fed l s w g is.sees) in
    record {
      sees = record {
        at = is.sees.at;
        sees = record {
          reads = record {
            whole = is.sees.sees.reads.whole;
            read = is.sees.sees.reads.read;
            ready = is.sees.sees.reads.ready;
            retiring = is.sees.sees.reads.retiring;
            limit = is.sees.sees.reads.limit;
            initial = is.sees.sees.reads.initial;
            window = is.sees.sees.reads.window;
            opened = is.sees.sees.reads.opened;
            block = is.sees.sees.reads.block;
            table = is.sees.sees.reads.table;
          };
          live = subst (StreamsAreLive l w.live) (sym stay) is.sees.sees.live;
        };
        owes = record {
          queue = is.sees.owes.queue;
          names = is.sees.owes.names;
          resizes = is.sees.owes.resizes;
          written = is.sees.owes.written;
          answered = is.sees.owes.answered;
        };
        waits = waiting;
        fed = subst (StreamsAreFed l u h w.live) (sym stay) (fed_again l s g h k ns w.live bs same is.sees.sees.live apart is.sees.fed);
        wait_fed = all_filter (λ (b : Attempt). IsFed l u b (h b.place)) waits (outstanding_on l u) fed_;
        opened = is.sees.opened;
        fresh = is.sees.fresh;
        tags = distinct_after k (map (λ (x : LiveStream). x.tag) w.live) w.waiting is.sees.tags none;
        places = places_at (with_placing at) (λ b. refl) k 1 s.attempts is.sees.places;
      };
      handled = subst (ResponsesAreReceived l u w.live) (sym stay) (received_again l s ns w.live bs is.handled);
      unreceived = is.unreceived;
      begun = is.begun;
    }

pub placings_keep : PlacingsKeep
placings_keep l s w g h k a at is there can same own =
    let f : Attempt → Attempt = with_placing at in
    let all : List Attempt = map (at_place f k) s.attempts in
    let u : Seen = with_attempt f k s in
    let changed_ : changed f k s.attempts ≡ all = changed_at f k s.attempts a is.sees.places there in
    let here : numbered u.attempts k ≡ Some (f a) = changed_here f k s.attempts a there in
    let sees : SeesStreams l u (placed w k) h
    = subst (λ (ns : List Attempt). SeesStreams l (record s { attempts = ns }) (placed w k) h) (sym changed_) (placed_here l s w g h k a at is there can same own) in
    let noted : attempt_placed k at s ≡ marked (mark.Placed k) a.row.call u = ap (λ (o : Option Attempt). option_map_or (λ (b : Attempt). marked (mark.Placed k) b.row.call u) o u) here in
    subst (λ (v : Seen). SeesStreams l v (placed w k) h) (sym noted) ((marked_left u (mark.Placed k) a.row.call).streams l (placed w k) h sees)
