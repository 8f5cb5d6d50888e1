-- An attempt that waits for a stream is cut off: it waits no more, and nothing is reset.
use Rattle.std.proofs.Common.{◌≡◌, ◌∷◌, ◌++◌, ◌||◌, ◌==◌, not, ap, arith, refl, subst, sym, ◌∙◌, Bool, true, false, List, [], None, Some, ℕ, ◌+◌, cond, filter, map}
use Rattle.std.specs.BTreeMap.{is_at}
use Rattle.std.specs.Ordering.{nat_cmp}
use Rattle.std.specs.Set.{remove_key}
use Rattle.std.proofs.lemmas.Bool.{eqb-true}
use Rattle.std.proofs.lemmas.Bool.Decides.{nat_tests}
use Rattle.h2_link.specs.Steps.{cut, cut_at, found_from, is_tagged}
use Rattle.h2_link.specs.Wire.{Wire}
use Rattle.h2_link.specs.declared.live.LiveStream.{LiveStream}
use Rattle.lb_policy.specs.Table.{is_one_of}
use Rattle.link_actions.proofs.Lists.{if_false, if_true, none_of}
use Rattle.link_actions.proofs.Without.{is_other, is_other_stream}
use Rattle.link_actions.specs.Laws.{without_tag}
use Rattle.link_actions.specs.Sees.{NumbersAreDistinct, by_stream}
use Rattle.link_actions.specs.ResetActions.Ahead.{SeesAhead}
use Rattle.link_actions.specs.ResetActions.Laws.{IsCut, WaitsAreCut}
use Rattle.session_actions.specs.AttemptEnds.{attempt_ended}
use Rattle.session_actions.specs.Writing.{streaming_on}
use Rattle.session_actions.specs.declared.attempt.Attempt.{Attempt}
use Rattle.link_actions.proofs.StreamActions.Found.{waits_kept}
use Rattle.link_actions.proofs.StreamActions.StreamEnds.{ends_received}
use Rattle.link_actions.proofs.StreamActions.Unreceived.{but_all}
use Rattle.link_actions.specs.StreamActions.Sees.{SeesBut, SeesStreams}

-- its number is taken away once
at_same : (k x : ℕ) → is_at (nat_cmp k) x ≡ true → k ≡ x
at_same k x e = grind (arith, nat_tests)

at_itself : (k x : ℕ) → k ≡ x → is_at (nat_cmp k) x ≡ true
at_itself k x e = grind (arith, nat_tests, e)

same_number : (m n : ℕ) → m ≡ n → (m == n) ≡ true
same_number m n e = grind (arith, nat_tests, e)

both_ways : (b : Bool) → b ≡ true → b ≡ false → ⊥
both_ways true e h = (cc)
both_ways false e h = (cc)

key_by : (t n : ℕ) (ns : List ℕ) (b : Bool) → is_at (nat_cmp t) n ≡ b → is_one_of ns n ≡ false → remove_key (is_at (nat_cmp t)) ns ≡ filter (is_other t) ns
    → cond b ns (n ∷ remove_key (is_at (nat_cmp t)) ns) ≡ filter (is_other t) (n ∷ ns)
key_by t n ns true is none rest =
    let same : t ≡ n = at_same t n is in
    let yes : (n == t) ≡ true = same_number n t (sym same) in
    sym (if_false (is_other t n) (n ∷ filter (is_other t) ns) (filter (is_other t) ns) (ap not yes)
    ∙ waits_kept t ns (ap (is_one_of ns) same ∙ none))
key_by t n ns false is none rest =
    ap (λ (ms : List ℕ). n ∷ ms) rest ∙ sym (if_true (is_other t n) (n ∷ filter (is_other t) ns) (filter (is_other t) ns) (ap not (apart_by t n (n == t) refl is)))
  where
    apart_by : (t n : ℕ) (b : Bool) → (n == t) ≡ b → is_at (nat_cmp t) n ≡ false → b ≡ false
    apart_by t n true e off = absurd (both_ways (is_at (nat_cmp t) n) (at_itself t n (sym (eqb-true n t e))) off)
    apart_by t n false e off = refl

key_is : (t : ℕ) (ns : List ℕ) → NumbersAreDistinct ns → remove_key (is_at (nat_cmp t)) ns ≡ filter (is_other t) ns
key_is t [] all = refl
key_is t (n ∷ ns) all = key_by t n ns (is_at (nat_cmp t) n) refl all.0 (key_is t ns all.1)

back_distinct : (xs ys : List ℕ) → NumbersAreDistinct (xs ++ ys) → NumbersAreDistinct ys
back_distinct [] ys all = all
back_distinct (x ∷ xs) ys all = back_distinct xs ys all.1

-- no stream is of it
not_before : (xs ys : List ℕ) (t : ℕ) → NumbersAreDistinct (xs ++ ys) → is_one_of ys t ≡ true → is_one_of xs t ≡ false
not_before [] ys t all there = refl
not_before (x ∷ xs) ys t all there = first_by x xs ys t (x == t) refl all.0 there (not_before xs ys t all.1 there)
  where
    prefix_by : (xs ys : List ℕ) (k : ℕ) → is_one_of (xs ++ ys) k ≡ false → is_one_of ys k ≡ false
    prefix_by [] ys k none = none
    prefix_by (x ∷ xs) ys k none = (let parts = none_of (x == k) (is_one_of (xs ++ ys) k) none in prefix_by xs ys k parts.1)

    first_by : (x : ℕ) (xs ys : List ℕ) (t : ℕ) (b : Bool) → (x == t) ≡ b → is_one_of (xs ++ ys) x ≡ false → is_one_of ys t ≡ true → is_one_of xs t ≡ false → (b || is_one_of xs t) ≡ false
    first_by x xs ys t true e none there rest =
        let same : x ≡ t = eqb-true x t e in
        absurd (both_ways (is_one_of ys x) (ap (is_one_of ys) same ∙ there) (prefix_by xs ys x none))
    first_by x xs ys t false e none there rest = rest

no_tag : (t place : ℕ) (xs : List LiveStream) → is_one_of (map (λ (x : LiveStream). x.tag) xs) t ≡ false → found_from (is_tagged t) place xs ≡ None
no_tag t place [] none = refl
no_tag t place (x ∷ xs) none =
    let parts = none_of (x.tag == t) (is_one_of (map (λ (y : LiveStream). y.tag) xs) t) none in
    if_false (x.tag == t) (Some (place, x)) (found_from (is_tagged t) (place + 1) xs) parts.0 ∙ no_tag t (place + 1) xs parts.1

all_others : (t : ℕ) (xs : List LiveStream) → is_one_of (map (λ (x : LiveStream). x.tag) xs) t ≡ false → filter (is_other_stream t) xs ≡ xs
all_others t [] none = refl
all_others t (x ∷ xs) none =
    let parts = none_of (x.tag == t) (is_one_of (map (λ (y : LiveStream). y.tag) xs) t) none in
    if_true (is_other_stream t x) (x ∷ filter (is_other_stream t) xs) (filter (is_other_stream t) xs) (ap not parts.0) ∙ ap (λ (ys : List LiveStream). x ∷ ys) (all_others t xs parts.1)

-- it is cut off
pub waits_are_cut : WaitsAreCut
waits_are_cut resets l s w g number a e cut_ there waits_ =
    let is : SeesAhead resets l s w g = cut_.ahead in
    let v : Wire = is.wire in
    let t : ℕ = a.place in
    let tags : List ℕ = map (λ (x : LiveStream). x.tag) v.live in
    let waiting : w.waiting ≡ v.waiting = ap (λ (x : Wire). x.waiting) is.same in
    let live : w.live ≡ v.live = ap (λ (x : Wire). x.live) is.same in
    let here : is_one_of v.waiting t ≡ true = ap (λ (ns : List ℕ). is_one_of ns t) (sym waiting) ∙ waits_ in
    let none : is_one_of tags t ≡ false = not_before tags v.waiting t is.sees.sees.tags here in
    let found : found_from (is_tagged t) 0 w.live ≡ None = ap (found_from (is_tagged t) 0) live ∙ no_tag t 0 v.live none in
    let bs : List Attempt = by_stream (streaming_on l s) in
    let but : SeesBut t l s v g = record { sees = is.sees.sees; handled = but_all t l s v.live bs is.sees.handled; unreceived = is.sees.unreceived; begun = is.sees.begun } in
    let ended : SeesStreams l (attempt_ended t e s) (without_tag t v) g = ends_received l s v g t a e but there in
    let key : remove_key (is_at (nat_cmp t)) v.waiting ≡ filter (is_other t) v.waiting = key_is t v.waiting (back_distinct tags v.waiting is.sees.sees.tags) in
    let left : without_tag t v ≡ record v { waiting = remove_key (is_at (nat_cmp t)) v.waiting }
    = ap (λ (xs : List LiveStream). record v { live = xs; waiting = filter (is_other t) v.waiting }) (all_others t v.live none)
    ∙ ap (λ (ns : List ℕ). record v { waiting = ns }) (sym key) in
    let u : Wire = record v { waiting = remove_key (is_at (nat_cmp t)) v.waiting } in
    let cut_is : cut w t number ≡ record w { waiting = remove_key (is_at (nat_cmp t)) w.waiting } = ap (cut_at w t number) found in
    let same : ◌≡◌ {A = Wire} (record w { waiting = remove_key (is_at (nat_cmp t)) w.waiting }) (record u { queue = w.queue })
    = ap (λ (x : Wire). record x { waiting = remove_key (is_at (nat_cmp t)) x.waiting }) is.same in
    subst (λ (x : Wire). IsCut resets l (attempt_ended t e s) x g) (sym cut_is) (record {
      ahead = record { wire = u; sees = subst (λ (x : Wire). SeesStreams l (attempt_ended t e s) x g) left ended; same = same; queue = is.queue };
      fresh = cut_.fresh;
    })
