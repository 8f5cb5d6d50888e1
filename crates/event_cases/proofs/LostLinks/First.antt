-- Which attempt of a link the channel ends next is the one that the session ends next: that of the lowest place.
use Rattle.std.proofs.Common.{◌≡◌, ◌&&◌, ◌||◌, ◌==◌, ◌∷◌, ap, arith, refl, subst, sym, ◌∙◌, Bool, true, false, List, [], Option, None, Some, ℕ, zero, suc, cond, filter, find, if◌then◌else◌, is_none, is_some, nat_lt, slice_get}
use Rattle.std.proofs.lemmas.Bool.{both_ways, eqb-true}
use Rattle.std.proofs.lemmas.Bool.Decides.{nat_tests}
use Rattle.std.specs.Option.{option_map_or}
use Rattle.attempt_ledger.specs.declared.row.Placed.{Placed}
use Rattle.attempt_ledger.specs.declared.row.RowEnd.{RowEnd}
use Rattle.channel_actions.proofs.Outstanding.{same_self}
use Rattle.channel_actions.proofs.Links.Settings.Pairs.{same_is}
use Rattle.channel_actions.specs.Sets.{PairsAreExactly, is_in_outstanding}
use Rattle.attempt_cases.proofs.ServeSteps.Order.{least_found}
use Rattle.channel_core.specs.Steps.{row_on}
use Rattle.link_actions.proofs.Without as lists
use Rattle.link_actions.specs.Sees.{AttemptsStandInPlace}
use Rattle.picker_gate.specs.Pairs.{has, comes_after, is_same, next_after}
use Rattle.session_actions.specs.Attempts.{is_outstanding}
use Rattle.session_actions.specs.Links.{link_number}
use Rattle.session_actions.specs.Reading.{is_outstanding_on, outstanding_on}
use Rattle.session_actions.specs.Words.{holds, numbered}
use Rattle.session_actions.specs.declared.attempt.Attempt.{Attempt}
use Rattle.session_actions.specs.declared.link.Link.{Link}
use Rattle.session_actions.specs.declared.seen.Seen.{Seen}

-- the first of those that pass
pub record IsHead {X : Type 0} (p : X → Bool) (xs : List X) (a : X) : Type 0 where
  pub index : ℕ
  pub there : slice_get xs index ≡ Some a
  pub passes : p a ≡ true
  pub none : (i : ℕ) (x : X) → slice_get xs i ≡ Some x → nat_lt i index ≡ true → p x ≡ false

below_none : (i : ℕ) → nat_lt i 0 ≡ false
below_none i = grind (arith, nat_tests)

one_down : (i n : ℕ) → nat_lt (suc i) (suc n) ≡ true → nat_lt i n ≡ true
one_down i n e = grind (arith, nat_tests, e)

none_by : {X : Type 0} (p : X → Bool) (x : X) (xs : List X) (index : ℕ) → p x ≡ false → ((i : ℕ) (y : X) → slice_get xs i ≡ Some y → nat_lt i index ≡ true → p y ≡ false)
    → (i : ℕ) (y : X) → slice_get (x ∷ xs) i ≡ Some y → nat_lt i (suc index) ≡ true → p y ≡ false
none_by p x xs index off rest zero y at below = let same : y ≡ x = (cc) in ap p same ∙ off
none_by p x xs index off rest (suc i) y at below = rest i y at (one_down i index below)

head_by : {X : Type 0} (p : X → Bool) (x a : X) (xs : List X) (b : Bool) → p x ≡ b → (slice_get (filter p xs) 0 ≡ Some a → IsHead p xs a)
    → slice_get (cond b (x ∷ filter p xs) (filter p xs)) 0 ≡ Some a → IsHead p (x ∷ xs) a
head_by p x a xs true e rest is =
    let same : x ≡ a = (cc) in
    subst (IsHead p (x ∷ xs)) same
    (record { index = 0; there = refl; passes = e; none = λ i y at below. absurd (let bad : true ≡ false = sym below ∙ below_none i in (cc)) })
head_by p x a xs false e rest is =
    let k : IsHead p xs a = rest is in record { index = suc k.index; there = k.there; passes = k.passes; none = none_by p x xs k.index e k.none }

pub head_is : {X : Type 0} (p : X → Bool) (xs : List X) (a : X) → slice_get (filter p xs) 0 ≡ Some a → IsHead p xs a
head_is p [] a is = absurd (cc)
head_is p (x ∷ xs) a is = head_by p x a xs (p x) refl (head_is p xs a) is

no_head_by : {X : Type 0} (p : X → Bool) (x : X) (xs : List X) (b : Bool) → p x ≡ b → (slice_get (filter p xs) 0 ≡ None → (i : ℕ) (y : X) → slice_get xs i ≡ Some y → p y ≡ false)
    → slice_get (cond b (x ∷ filter p xs) (filter p xs)) 0 ≡ None → (i : ℕ) (y : X) → slice_get (x ∷ xs) i ≡ Some y → p y ≡ false
no_head_by p x xs true e rest is i y at = absurd (cc)
no_head_by p x xs false e rest is zero y at = let same : y ≡ x = (cc) in ap p same ∙ e
no_head_by p x xs false e rest is (suc i) y at = rest is i y at

pub no_head : {X : Type 0} (p : X → Bool) (xs : List X) → slice_get (filter p xs) 0 ≡ None → (i : ℕ) (x : X) → slice_get xs i ≡ Some x → p x ≡ false
no_head p [] is i x at = absurd (cc)
no_head p (x ∷ xs) is i y at = no_head_by p x xs (p x) refl (no_head p xs) is i y at

-- what is found
found_by : (p : ℕ × ℕ → Bool) (x q : ℕ × ℕ) (xs : List (ℕ × ℕ)) (b : Bool) → p x ≡ b → (find p xs ≡ Some q → (p q ≡ true) × (has xs q ≡ true))
    → cond b (Some x) (find p xs) ≡ Some q → (p q ≡ true) × (has (x ∷ xs) q ≡ true)
found_by p x q xs true e rest is =
    let same : x ≡ q = (cc) in
    (ap p (sym same) ∙ e, ap (λ (b : Bool). b || has xs q) (ap (is_same q) same ∙ same_self q))
found_by p x q xs false e rest is =
    let k = rest is in (k.0, either (is_same q x) (has xs q) k.1)
  where
    either : (b c : Bool) → c ≡ true → (b || c) ≡ true
    either true c h = refl
    either false c h = h

found : (p : ℕ × ℕ → Bool) (xs : List (ℕ × ℕ)) (q : ℕ × ℕ) → find p xs ≡ Some q → (p q ≡ true) × (has xs q ≡ true)
found p [] q is = absurd (cc)
found p (x ∷ xs) q is = found_by p x q xs (p x) refl (found p xs q) is

nothing_by : (p : ℕ × ℕ → Bool) (x q : ℕ × ℕ) (xs : List (ℕ × ℕ)) (b : Bool) → p x ≡ b → (c : Bool) → is_same q x ≡ c
    → (find p xs ≡ None → has xs q ≡ true → p q ≡ false) → cond b (Some x) (find p xs) ≡ None → (c || has xs q) ≡ true → p q ≡ false
nothing_by p x q xs true e c same rest is there = absurd (cc)
nothing_by p x q xs false e true same rest is there = ap p (same_is q x same) ∙ e
nothing_by p x q xs false e false same rest is there = rest is there

nothing : (p : ℕ × ℕ → Bool) (xs : List (ℕ × ℕ)) (q : ℕ × ℕ) → find p xs ≡ None → has xs q ≡ true → p q ≡ false
nothing p [] q is there = absurd (cc)
nothing p (x ∷ xs) q is there = nothing_by p x q xs (p x) refl (is_same q x) refl (nothing p xs q) is there

-- pairs of one link
after_on : (link m n : ℕ) → nat_lt m n ≡ true → comes_after (link, m) (link, n) ≡ true
after_on link m n e = grind (arith, nat_tests, e)

not_below : (link n : ℕ) (p : ℕ × ℕ) → comes_after (link, n) p ≡ false → (p.0 == link) ≡ true → nat_lt n p.1 ≡ false
not_below link n p e f = grind (arith, nat_tests, e, f)

beyond_link : (link m n : ℕ) (p : ℕ × ℕ) → comes_after (link, m) p ≡ true → (p.0 == link) ≡ false → comes_after (link, n) p ≡ true
beyond_link link m n p e f = grind (arith, nat_tests, e, f)

same_number : (m n : ℕ) → nat_lt m n ≡ false → nat_lt n m ≡ false → m ≡ n
same_number m n e f = grind (arith, nat_tests, e, f)

-- an attempt on the link is a pair of the set
on_pair : (n : ℕ) (p : Option Placed) (e : Option RowEnd) → ((is_some p && is_none e) && holds (λ (at : Placed). at.link == n) p) ≡ true
    → ((is_some p && is_none e) && (option_map_or (λ (at : Placed). at.link) p 0 == n)) ≡ true
on_pair n None e h = absurd (cc)
on_pair n (Some at) e h = h

pair_on : (n : ℕ) (p : Option Placed) (e : Option RowEnd) → ((is_some p && is_none e) && (option_map_or (λ (at : Placed). at.link) p 0 == n)) ≡ true
    → ((is_some p && is_none e) && holds (λ (at : Placed). at.link == n) p) ≡ true
pair_on n None e h = absurd (cc)
pair_on n (Some at) e h = h

pub in_set : (l : Link) (s : Seen) (a : Attempt) → numbered s.attempts a.place ≡ Some a → is_outstanding_on l a ≡ true → is_in_outstanding s l.number a.place ≡ true
in_set l s a there out =
    ap (holds (λ (b : Attempt). is_outstanding b && (link_number b == l.number))) there ∙ on_pair l.number a.row.placed a.row.ended out

-- and a pair of the set is one
pub record IsIn (l : Link) (s : Seen) (row : ℕ) : Type 0 where
  pub attempt : Attempt
  pub there : numbered s.attempts row ≡ Some attempt
  pub out : is_outstanding_on l attempt ≡ true

in_by : (l : Link) (s : Seen) (row : ℕ) (o : Option Attempt) → numbered s.attempts row ≡ o → holds (λ (b : Attempt). is_outstanding b && (link_number b == l.number)) o ≡ true → IsIn l s row
in_by l s row None at h = absurd (cc)
in_by l s row (Some a) at h = record { attempt = a; there = at; out = pair_on l.number a.row.placed a.row.ended h }

pub of_set : (l : Link) (s : Seen) (row : ℕ) → is_in_outstanding s l.number row ≡ true → IsIn l s row
of_set l s row h = in_by l s row (numbered s.attempts row) refl h

module _ (l : Link) (s : Seen) (pairs : List (ℕ × ℕ)) (exact : PairsAreExactly pairs (is_in_outstanding s)) (places : AttemptsStandInPlace 1 s.attempts) (row : ℕ)
    (passed : (k : ℕ) → is_in_outstanding s l.number k ≡ true → nat_lt row k ≡ true) where
  abbrev last : ℕ × ℕ
  last = (l.number, row)

  place_at : (i : ℕ) (a : Attempt) → slice_get s.attempts i ≡ Some a → a.place ≡ suc i
  place_at i a at = lists.place_is (suc i) s.attempts a places at

  at_place : (i : ℕ) (a : Attempt) → slice_get s.attempts i ≡ Some a → numbered s.attempts a.place ≡ Some a
  at_place i a at = ap (numbered s.attempts) (place_at i a at) ∙ at

  has_pair : (i : ℕ) (a : Attempt) → slice_get s.attempts i ≡ Some a → is_outstanding_on l a ≡ true → has pairs (l.number, a.place) ≡ true
  has_pair i a at out = exact.exact l.number a.place ∙ in_set l s a (at_place i a at) out

  afterwards : (i : ℕ) (a : Attempt) → slice_get s.attempts i ≡ Some a → is_outstanding_on l a ≡ true → comes_after last (l.number, a.place) ≡ true
  afterwards i a at out = after_on l.number row a.place (passed a.place (in_set l s a (at_place i a at) out))

  -- none is left
  none_on : (p : ℕ × ℕ) (b : Bool) → (p.0 == l.number) ≡ b → comes_after last p ≡ true → has pairs p ≡ true → ((i : ℕ) (a : Attempt) → slice_get s.attempts i ≡ Some a → is_outstanding_on l a ≡ false)
      → (if b then Some p.1 else None) ≡ None
  none_on p true e after there none =
      let same : p.0 ≡ l.number = eqb-true p.0 l.number e in
      let k : IsIn l s p.1 = of_set l s p.1 (ap (λ (n : ℕ). is_in_outstanding s n p.1) (sym same) ∙ sym (exact.exact p.0 p.1) ∙ there) in
      absurd (none_there p.1 k.attempt k.there k.out)
    where
      none_there : (n : ℕ) (a : Attempt) → numbered s.attempts n ≡ Some a → is_outstanding_on l a ≡ true → ⊥
      none_there zero a at out = absurd (cc)
      none_there (suc i) a at out = both_ways (is_outstanding_on l a) (none i a at) out
  none_on p false e after there none = refl

  none_by_set : (o : Option (ℕ × ℕ)) → next_after pairs last ≡ o → ((i : ℕ) (a : Attempt) → slice_get s.attempts i ≡ Some a → is_outstanding_on l a ≡ false) → row_on l.number o ≡ None
  none_by_set None e none = refl
  none_by_set (Some p) e none =
      let f = found (comes_after last) pairs p e in none_on p (p.0 == l.number) refl f.0 f.1 none

  pub none_next : slice_get (outstanding_on l s) 0 ≡ None → row_on l.number (next_after pairs last) ≡ None
  none_next e = none_by_set (next_after pairs last) refl (no_head (is_outstanding_on l) s.attempts e)

  -- or the first one
  module _ (a : Attempt) (head : IsHead (is_outstanding_on l) s.attempts a) where
    first_in : (p : ℕ × ℕ) (b : Bool) → (p.0 == l.number) ≡ b → next_after pairs last ≡ Some p → comes_after last p ≡ true → has pairs p ≡ true → (if b then Some p.1 else None) ≡ Some a.place
    first_in p true e is after there =
        let same : p.0 ≡ l.number = eqb-true p.0 l.number e in
        let k : IsIn l s p.1 = of_set l s p.1 (ap (λ (n : ℕ). is_in_outstanding s n p.1) (sym same) ∙ sym (exact.exact p.0 p.1) ∙ there) in
        let least : comes_after (l.number, a.place) p ≡ false
        = least_found last p (l.number, a.place) pairs exact.rising is (afterwards head.index a head.there head.passes) (has_pair head.index a head.there head.passes) in
        let not_above : nat_lt a.place p.1 ≡ false = not_below l.number a.place p least e in
        let not_before : nat_lt p.1 a.place ≡ false = ap (nat_lt p.1) (place_at head.index a head.there) ∙ earlier p.1 k.attempt k.there k.out in
        ap (λ (n : ℕ). Some n) (same_number p.1 a.place not_before not_above)
      where
        up : (i n : ℕ) → nat_lt i n ≡ false → nat_lt (suc i) (suc n) ≡ false
        up i n e = grind (arith, nat_tests, e)

        by_test : (i : ℕ) (b : Attempt) (c : Bool) → nat_lt i head.index ≡ c → slice_get s.attempts i ≡ Some b → is_outstanding_on l b ≡ true → c ≡ false
        by_test i b true e at out = absurd (both_ways (is_outstanding_on l b) (head.none i b at e) out)
        by_test i b false e at out = refl

        earlier : (n : ℕ) (b : Attempt) → numbered s.attempts n ≡ Some b → is_outstanding_on l b ≡ true → nat_lt n (suc head.index) ≡ false
        earlier zero b at out = absurd (cc)
        earlier (suc i) b at out = up i head.index (by_test i b (nat_lt i head.index) refl at out)
    first_in p false e is after there =
        let least : comes_after (l.number, a.place) p ≡ false
        = least_found last p (l.number, a.place) pairs exact.rising is (afterwards head.index a head.there head.passes) (has_pair head.index a head.there head.passes) in
        absurd (both_ways (comes_after (l.number, a.place) p) least (beyond_link l.number row a.place p after e))

    first_by : (o : Option (ℕ × ℕ)) → next_after pairs last ≡ o → row_on l.number o ≡ Some a.place
    first_by None e =
        absurd (both_ways (comes_after last (l.number, a.place)) (nothing (comes_after last) pairs (l.number, a.place) e (has_pair head.index a head.there head.passes)) (afterwards head.index a head.there head.passes))
    first_by (Some p) e = let f = found (comes_after last) pairs p e in first_in p (p.0 == l.number) refl e f.0 f.1

    pub first_next : row_on l.number (next_after pairs last) ≡ Some a.place
    first_next = first_by (next_after pairs last) refl
