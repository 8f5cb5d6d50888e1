-- A tag that the link has no more: to give it up changes nothing.
use Rattle.std.proofs.Common.{◌≡◌, ◌∷◌, ◌++◌, ◌==◌, not, ap, arith, refl, sym, ◌∙◌, Bool, true, false, List, [], None, Some, ℕ, ◌+◌, cond, filter, map, slice_get}
use Rattle.std.specs.BTreeMap.{is_at}
use Rattle.std.specs.List.{remove}
use Rattle.std.specs.Ordering.{nat_cmp}
use Rattle.std.specs.Set.{remove_key}
use Rattle.std.proofs.lemmas.Bool.Decides.{nat_tests}
use Rattle.h2_link.specs.Steps.{cut, cut_at, found_from, is_tagged}
use Rattle.h2_link.specs.Wire.{Wire}
use Rattle.h2_link.specs.declared.live.LiveStream.{LiveStream}
use Rattle.lb_policy.specs.Table.{is_one_of}
use Rattle.link_actions.proofs.DataSent.{tag_apart}
use Rattle.link_actions.proofs.Lists.{if_false, none_of}
use Rattle.link_actions.proofs.Without.{is_other_stream}
use Rattle.link_actions.specs.Sees.{NumbersAreDistinct}
use Rattle.link_actions.proofs.StreamActions.Found.{removed}

-- no stream is of it
tagged_by : (t place : ℕ) (x : LiveStream) (xs : List LiveStream) (b : Bool) → (x.tag == t) ≡ b → found_from (is_tagged t) place (filter (is_other_stream t) xs) ≡ None
    → found_from (is_tagged t) (place + 1) (filter (is_other_stream t) xs) ≡ None
    → found_from (is_tagged t) place (cond (not b) (x ∷ filter (is_other_stream t) xs) (filter (is_other_stream t) xs)) ≡ None
tagged_by t place x xs true is here next = here
tagged_by t place x xs false is here next =
    if_false (x.tag == t) (Some (place, x)) (found_from (is_tagged t) (place + 1) (filter (is_other_stream t) xs)) is ∙ next

none_tagged : (t place : ℕ) (xs : List LiveStream) → found_from (is_tagged t) place (filter (is_other_stream t) xs) ≡ None
none_tagged t place [] = refl
none_tagged t place (x ∷ xs) = tagged_by t place x xs (x.tag == t) refl (none_tagged t place xs) (none_tagged t (place + 1) xs)

-- nor does it wait
at_same : (k x : ℕ) → is_at (nat_cmp k) x ≡ true → k ≡ x
at_same k x e = grind (arith, nat_tests)

apart : (n t : ℕ) → (n == t) ≡ false → t ≡ n → ⊥
apart n t e h = grind (arith, nat_tests, e, h)

key_by : (t n : ℕ) (ns ms : List ℕ) (b : Bool) → is_at (nat_cmp t) n ≡ b → (n == t) ≡ false → ms ≡ ns → cond b ns (n ∷ ms) ≡ n ∷ ns
key_by t n ns ms true is off e = absurd (apart n t off (at_same t n is))
key_by t n ns ms false is off e = ap (λ (ks : List ℕ). n ∷ ks) e

no_key : (t : ℕ) (ns : List ℕ) → is_one_of ns t ≡ false → remove_key (is_at (nat_cmp t)) ns ≡ ns
no_key t [] none = refl
no_key t (n ∷ ns) none =
    let parts = none_of (n == t) (is_one_of ns t) none in
    key_by t n ns (remove_key (is_at (nat_cmp t)) ns) (is_at (nat_cmp t) n) refl parts.0 (no_key t ns parts.1)

pub cut_gone : (w v : Wire) (i number : ℕ) (y : LiveStream) → slice_get w.live i ≡ Some y → NumbersAreDistinct (map (λ (x : LiveStream). x.tag) w.live ++ w.waiting) → v.live ≡ remove w.live i
    → v.waiting ≡ w.waiting → cut v y.tag number ≡ v
cut_gone w v i number y there tags live waiting =
    let gone : v.live ≡ filter (is_other_stream y.tag) w.live = live ∙ sym (removed i w.live y w.waiting there tags) in
    let none : found_from (is_tagged y.tag) 0 v.live ≡ None = ap (found_from (is_tagged y.tag) 0) gone ∙ none_tagged y.tag 0 w.live in
    let off : is_one_of v.waiting y.tag ≡ false = ap (λ (ns : List ℕ). is_one_of ns y.tag) waiting ∙ tag_apart i w.live y w.waiting there tags in
    ap (cut_at v y.tag number) none ∙ ap (λ (ns : List ℕ). record v { waiting = ns }) (no_key y.tag v.waiting off)

pub cut_free : (w : Wire) (t number : ℕ) → found_from (is_tagged t) 0 w.live ≡ None → is_one_of w.waiting t ≡ false → cut w t number ≡ w
cut_free w t number none off = ap (cut_at w t number) none ∙ ap (λ (ns : List ℕ). record w { waiting = ns }) (no_key t w.waiting off)
