-- A transparent retry follows an attempt that ended: which ends count, and which attempts are followed, is as before but for that one.
use Rattle.std.proofs.Common.{◌≡◌, ◌⊎◌, inl, inr, ◌<◌, ◌≤◌, ◌+◌, ◌∷◌, ◌||◌, ◌&&◌, ◌==◌, not, nat_lt, ap, arith, refl, sym, ◌∙◌, Bool, true, false, List, [], Option, None, Some, ℕ, zero, suc, is_none, is_some, length, slice_get}
use Rattle.std.proofs.lemmas.Bool.{and_from, and_left, and_parts, and_right, cases_lt, eq-eqb, eqb-false, eqb-true, lt-ltb, ltb-false, not-false, or_from, or_parts, or_right}
use Rattle.std.proofs.lemmas.List.Folds.{list_any-append}
use Rattle.std.specs.List.{list_any}
use Rattle.attempt_ledger.specs.Ends.{is_cut}
use Rattle.attempt_ledger.specs.TransparentRows.{is_by_peer, is_refused, is_unsent}
use Rattle.attempt_ledger.specs.declared.row.RowEnd.{RowEnd}
use Rattle.call_actions.proofs.Added.{Leaves, more_seen}
use Rattle.call_actions.proofs.Places.{only_here, place_is, places_below}
use Rattle.call_actions.proofs.Ranks.{any_either, any_where, find_last_more, or_no}
use Rattle.call_actions.specs.Order.{AttemptsAreNumbered}
use Rattle.session_actions.specs.Attempts.{call_of, commitment, counts_by, is_commitment, is_followed, is_later_of, is_of, is_to_follow, of_its_call, wants_follower, wants_follower_by, was_refused, was_retried_so}
use Rattle.session_actions.specs.Words.{holds, numbered}
use Rattle.session_actions.specs.declared.attempt.Attempt.{Attempt}
use Rattle.session_actions.specs.declared.call.Call.{Call}
use Rattle.session_actions.specs.declared.seen.Seen.{Seen}

-- what one of a list has
any_from : {X : Type 0} (p : X → Bool) (xs : List X) (i : ℕ) (x : X) → slice_get xs i ≡ Some x → p x ≡ true → list_any p xs ≡ true
any_from p [] i x got e = absurd (cc)
any_from p (y ∷ xs) zero x got e = let one : y ≡ x = (cc) in ap (λ (b : Bool). b || list_any p xs) (ap p one ∙ e)
any_from p (y ∷ xs) (suc i) x got e = or_right (p y) (list_any p xs) (any_from p xs i x got e)

pub any_here : {X : Type 0} (p : X → Bool) (xs : List X) (n : ℕ) (x : X) → numbered xs n ≡ Some x → p x ≡ true → list_any p xs ≡ true
any_here p xs zero x got e = absurd (cc)
any_here p xs (suc i) x got e = any_from p xs i x got e

or_four : (a b c d : Bool) → ((a || b) || (c || d)) ≡ ((a || c) || (b || d))
or_four true b c d = refl
or_four false true true d = refl
or_four false true false d = refl
or_four false false c d = refl

any_or : {X : Type 0} (p q : X → Bool) (xs : List X) → list_any (λ (x : X). p x || q x) xs ≡ (list_any p xs || list_any q xs)
any_or p q [] = refl
any_or p q (x ∷ xs) = ap (λ (b : Bool). (p x || q x) || b) (any_or p q xs) ∙ or_four (p x) (q x) (list_any p xs) (list_any q xs)

absorbs : (f x : Bool) → (x ≡ true → f ≡ true) → (f || (x || false)) ≡ f
absorbs true x so = refl
absorbs false true so = sym (so refl)
absorbs false false so = refl

abbrev same_as : Bool → Bool → Bool
same_as true b = b
same_as false b = not b

same_so : (x y : Bool) → same_as x y ≡ true → x ≡ y
same_so true y e = sym e
same_so false true e = absurd (cc)
same_so false false e = refl

alike_by : (r : Bool) → not (same_as (true && r && true) ((true && r && false) || r)) ≡ false
alike_by true = refl
alike_by false = refl

lower_by : (n k : ℕ) → n ≤ k → (n ≡ k → ⊥) → (n < k) ⊎ (k ≤ n) → n < k
lower_by n k most off (inl less) = less
lower_by n k most off (inr more) = let same : n ≡ k = omega arith in absurd (off same)

lower : (n k : ℕ) → n ≤ k → (n ≡ k → ⊥) → n < k
lower n k most off = lower_by n k most off (cases_lt n k)

wants_so : (f x y : Bool) → (x ≡ false → y ≡ false) → (not f && x) ≡ false → (not f && y) ≡ false
wants_so true x y so e = refl
wants_so false x y so e = so e

-- which is to be followed, once one more was
stays_so : (u v r z : Bool) → (r ≡ true → z ≡ true) → (u || (v && not r)) ≡ false → (u || (v && not z)) ≡ false
stays_so true v r z so e = absurd (cc)
stays_so false false r z so e = refl
stays_so false true true z so e = ap (λ (b : Bool). not b) (so refl)
stays_so false true false z so e = absurd (cc)

module _ (s : Seen) (c : Call) (place : ℕ) (a new : Attempt) (e : RowEnd) (places : AttemptsAreNumbered 1 s.attempts) (got : numbered s.attempts place ≡ Some a)
    (own : is_of c a ≡ true) (its_call : numbered s.calls c.number ≡ Some c) (ended : a.row.ended ≡ Some e) (unfollowed : is_followed a s ≡ false)
    (follows : is_to_follow c e.cause e.unseen s ≡ true) (new_call : new.row.call ≡ c.number) (new_number : new.row.number ≡ a.row.number)
    (new_place : new.place ≡ length s.attempts + 1) (unended : new.row.ended ≡ None) (uncommitted : new.row.committed ≡ None)
    (quiescent : list_any (λ (q : Attempt). is_of c q && not (q.place == place) && wants_follower q s) s.attempts ≡ false) where
  abbrev more : Seen
  more = more_seen s new

  its_place : a.place ≡ place
  its_place = place_is place s.attempts a places got

  -- the new one follows it
  later : is_later_of a new ≡ true
  later =
      let below : a.place < new.place
      = (let low : place ≤ length s.attempts = places_below s.attempts place a got in
      let at : a.place ≡ place = its_place in
      let afterwards : new.place ≡ length s.attempts + 1 = new_place in omega arith) in
      let call : new.row.call ≡ a.row.call = new_call ∙ sym (eqb-true a.row.call c.number own) in
      and_from ((new.row.call == a.row.call) && (new.row.number == a.row.number)) (nat_lt a.place new.place)
      (and_from (new.row.call == a.row.call) (new.row.number == a.row.number) (eq-eqb new.row.call a.row.call call) (eq-eqb new.row.number a.row.number new_number))
      (lt-ltb a.place new.place below)

  followed_by : (q : Attempt) → is_followed q more ≡ (is_followed q s || (is_later_of q new || false))
  followed_by q = list_any-append (is_later_of q) s.attempts (new ∷ [])

  pub followed_now : is_followed a more ≡ true
  followed_now = followed_by a ∙ or_right (is_followed a s) (is_later_of a new || false) (ap (λ (b : Bool). b || false) later)

  -- any other that it would follow was followed before
  earlier_so : (q : Attempt) → is_later_of a q ≡ false → (q.place == place) ≡ false → is_later_of q new ≡ true → is_followed q s ≡ true
  earlier_so q before off after =
      let one : (((new.row.call == q.row.call) && (new.row.number == q.row.number)) ≡ true) × (nat_lt q.place new.place ≡ true)
      = and_parts ((new.row.call == q.row.call) && (new.row.number == q.row.number)) (nat_lt q.place new.place) after in
      let two : ((new.row.call == q.row.call) ≡ true) × ((new.row.number == q.row.number) ≡ true) = and_parts (new.row.call == q.row.call) (new.row.number == q.row.number) one.0 in
      let call : a.row.call ≡ q.row.call = eqb-true a.row.call c.number own ∙ sym new_call ∙ eqb-true new.row.call q.row.call two.0 in
      let number : a.row.number ≡ q.row.number = sym new_number ∙ eqb-true new.row.number q.row.number two.1 in
      let same : ((q.row.call == a.row.call) && (q.row.number == a.row.number)) ≡ true
      = and_from (q.row.call == a.row.call) (q.row.number == a.row.number) (eq-eqb q.row.call a.row.call (sym call)) (eq-eqb q.row.number a.row.number (sym number)) in
      let not_after : nat_lt a.place q.place ≡ false = sym (ap (λ (b : Bool). b && nat_lt a.place q.place) same) ∙ before in
      let most : q.place ≤ a.place = ltb-false a.place q.place not_after in
      let other : q.place ≡ place → ⊥ = eqb-false q.place place off in
      let below : q.place < a.place = lower q.place a.place most (λ equal. other (equal ∙ its_place)) in
      any_here (is_later_of q) s.attempts place a got
      (and_from ((a.row.call == q.row.call) && (a.row.number == q.row.number)) (nat_lt q.place a.place)
      (and_from (a.row.call == q.row.call) (a.row.number == q.row.number) (eq-eqb a.row.call q.row.call call) (eq-eqb a.row.number q.row.number number))
      (lt-ltb q.place a.place below))

  others_same : (q : Attempt) → is_later_of a q ≡ false → (q.place == place) ≡ false → is_followed q more ≡ is_followed q s
  others_same q before off = followed_by q ∙ absorbs (is_followed q s) (is_later_of q new) (earlier_so q before off)

  -- which retries of refused attempts there were
  abbrev retried_by : Seen → Attempt → Bool
  retried_by z q = is_of c q && was_refused q && is_followed q z

  abbrev was_it : Attempt → Bool
  was_it q = (q.place == place) && was_refused a

  abbrev differs : Attempt → Bool
  differs q = not (same_as (retried_by more q) (retried_by s q || was_refused a))

  alike_it : differs a ≡ false
  alike_it =
      ap (λ (b : Bool). not (same_as (is_of c a && was_refused a && b) ((is_of c a && was_refused a && is_followed a s) || was_refused a))) followed_now
      ∙ ap (λ (b : Bool). not (same_as (is_of c a && was_refused a && true) ((is_of c a && was_refused a && b) || was_refused a))) unfollowed
      ∙ ap (λ (b : Bool). not (same_as (b && was_refused a && true) ((b && was_refused a && false) || was_refused a))) own ∙ alike_by (was_refused a)

  abbrev bad : Attempt → Bool
  bad q = is_later_of a q || ((q.place == place) && differs q)

  none_bad : list_any bad s.attempts ≡ false
  none_bad =
      any_either (is_later_of a) (λ (q : Attempt). (q.place == place) && differs q) s.attempts unfollowed (only_here differs place a alike_it s.attempts places got)

  retried_of : (q : Attempt) (b : Bool) → (q.place == place) ≡ b → is_later_of a q ≡ false → (b && differs q) ≡ false → retried_by more q ≡ (retried_by s q || (b && was_refused a))
  retried_of q true here before good = same_so (retried_by more q) (retried_by s q || was_refused a) (not-false (same_as (retried_by more q) (retried_by s q || was_refused a)) good)
  retried_of q false here before good = ap (λ (b : Bool). is_of c q && was_refused q && b) (others_same q before here) ∙ sym (or_no (retried_by s q))

  retried_one : (q : Attempt) → bad q ≡ false → retried_by more q ≡ (retried_by s q || was_it q)
  retried_one q good =
      let parts : (is_later_of a q ≡ false) × (((q.place == place) && differs q) ≡ false) = or_parts (is_later_of a q) ((q.place == place) && differs q) good in
      retried_of q (q.place == place) refl parts.0 parts.1

  it_is : (r : Bool) → list_any (λ (q : Attempt). (q.place == place) && r) s.attempts ≡ r
  it_is true = any_here (λ (q : Attempt). (q.place == place) && true) s.attempts place a got (ap (λ (b : Bool). b && true) (eq-eqb a.place place its_place))
  it_is false = only_here (λ (q : Attempt). false) place a refl s.attempts places got

  retried_new : retried_by more new ≡ false
  retried_new =
      and_left (is_of c new && was_refused new) (is_followed new more)
      (and_right (is_of c new) (was_refused new) (ap (λ (o : Option RowEnd). holds is_refused o) unended))

  pub retried_now : was_retried_so c more ≡ (was_retried_so c s || was_refused a)
  retried_now =
      list_any-append (retried_by more) s.attempts (new ∷ [])
      ∙ ap (λ (b : Bool). list_any (retried_by more) s.attempts || (b || false)) retried_new ∙ or_no (list_any (retried_by more) s.attempts)
      ∙ any_where (retried_by more) (λ (q : Attempt). retried_by s q || was_it q) bad retried_one s.attempts none_bad
      ∙ any_or (retried_by s) was_it s.attempts ∙ ap (λ (b : Bool). list_any (retried_by s) s.attempts || b) (it_is (was_refused a))

  commitment_same : commitment c more ≡ commitment c s
  commitment_same =
      find_last_more (is_commitment c) s.attempts new (and_right (is_of c new) (is_some new.row.committed) (ap (λ (o : Option ℕ). is_some o) uncommitted))

  follow_so : (z : RowEnd) → is_to_follow c z.cause z.unseen s ≡ false → is_to_follow c z.cause z.unseen more ≡ false
  follow_so z e =
      ap (λ (o : Option Attempt). is_unsent z.cause || (z.unseen && is_by_peer z.cause && is_none o && not (was_retried_so c more))) commitment_same
      ∙ stays_so (is_unsent z.cause) (z.unseen && is_by_peer z.cause && is_none (commitment c s)) (was_retried_so c s) (was_retried_so c more)
      (λ was. retried_now ∙ ap (λ (b : Bool). b || was_refused a) was) e

  -- the one that is followed does not count, before and then
  call_of_it : call_of a s ≡ Some c
  call_of_it = ap (numbered s.calls) (eqb-true a.row.call c.number own) ∙ its_call

  wants_it : wants_follower_by a s e ≡ true
  wants_it =
      and_from (not (is_followed a s)) (of_its_call (λ (k : Call). is_to_follow k e.cause e.unseen s) a s) (ap (λ (b : Bool). not b) unfollowed)
      (ap (holds (λ (k : Call). is_to_follow k e.cause e.unseen s)) call_of_it ∙ follows)

  counts_it : counts_by a s e ≡ false
  counts_it =
      and_right (not (is_cut e.cause) && not (is_followed a s)) (not (wants_follower_by a s e)) (ap (λ (b : Bool). not b) wants_it)

  counts_then : counts_by a more e ≡ false
  counts_then =
      and_left (not (is_cut e.cause) && not (is_followed a more)) (not (wants_follower_by a more e))
      (and_right (not (is_cut e.cause)) (not (is_followed a more)) (ap (λ (b : Bool). not b) followed_now))

  abbrev counts_of : Attempt → Bool
  counts_of q = holds (counts_by q s) q.row.ended || holds (counts_by q more) q.row.ended

  uncounted : counts_of a ≡ false
  uncounted =
      or_from (holds (counts_by a s) a.row.ended) (holds (counts_by a more) a.row.ended) (ap (holds (counts_by a s)) ended ∙ counts_it)
      (ap (holds (counts_by a more)) ended ∙ counts_then)

  abbrev waits : Attempt → Bool
  waits q = is_of c q && not (q.place == place) && wants_follower q s

  abbrev pub odd : Attempt → Bool
  odd q = is_later_of a q || (waits q || ((q.place == place) && counts_of q))

  none_odd : list_any odd s.attempts ≡ false
  none_odd =
      any_either (is_later_of a) (λ (q : Attempt). waits q || ((q.place == place) && counts_of q)) s.attempts unfollowed
      (any_either waits (λ (q : Attempt). (q.place == place) && counts_of q) s.attempts quiescent (only_here counts_of place a uncounted s.attempts places got))

  counts_by_place : (q : Attempt) (z : RowEnd) (b : Bool) → (q.place == place) ≡ b → is_of c q ≡ true → q.row.ended ≡ Some z → is_later_of a q ≡ false
      → (is_of c q && not b && wants_follower q s) ≡ false → (b && counts_of q) ≡ false → counts_by q more z ≡ counts_by q s z
  counts_by_place q z true here mine its_end before quiescent_here good =
      let parts : (holds (counts_by q s) q.row.ended ≡ false) × (holds (counts_by q more) q.row.ended ≡ false)
      = or_parts (holds (counts_by q s) q.row.ended) (holds (counts_by q more) q.row.ended) good in
      sym (ap (holds (counts_by q more)) its_end) ∙ parts.1 ∙ sym (sym (ap (holds (counts_by q s)) its_end) ∙ parts.0)
  counts_by_place q z false here mine its_end before quiescent_here good =
      let same : is_followed q more ≡ is_followed q s = others_same q before here in
      let its : call_of q s ≡ Some c = ap (numbered s.calls) (eqb-true q.row.call c.number mine) ∙ its_call in
      let wants : (not (is_followed q s) && is_to_follow c z.cause z.unseen s) ≡ false
      = sym (ap (λ (o : Option Call). not (is_followed q s) && holds (λ (k : Call). is_to_follow k z.cause z.unseen s) o) its)
      ∙ sym (ap (holds (wants_follower_by q s)) its_end) ∙ sym (ap (λ (b : Bool). b && true && wants_follower q s) mine) ∙ quiescent_here in
      let wants_more : wants_follower_by q more z ≡ false
      = ap (λ (b : Bool). not b && of_its_call (λ (k : Call). is_to_follow k z.cause z.unseen more) q more) same
      ∙ ap (λ (o : Option Call). not (is_followed q s) && holds (λ (k : Call). is_to_follow k z.cause z.unseen more) o) its
      ∙ wants_so (is_followed q s) (is_to_follow c z.cause z.unseen s) (is_to_follow c z.cause z.unseen more) (follow_so z) wants in
      let wants_before : wants_follower_by q s z ≡ false
      = ap (λ (o : Option Call). not (is_followed q s) && holds (λ (k : Call). is_to_follow k z.cause z.unseen s) o) its ∙ wants in
      ap (λ (b : Bool). not (is_cut z.cause) && not b && not (wants_follower_by q more z)) same
      ∙ ap (λ (b : Bool). not (is_cut z.cause) && not (is_followed q s) && not b) (wants_more ∙ sym wants_before)

  pub left : Leaves s c new odd
  left = record {
    none = none_odd;
    counts = λ q good mine z its_end.
        (let one : (is_later_of a q ≡ false) × ((waits q || ((q.place == place) && counts_of q)) ≡ false)
        = or_parts (is_later_of a q) (waits q || ((q.place == place) && counts_of q)) good in
        let two : (waits q ≡ false) × (((q.place == place) && counts_of q) ≡ false) = or_parts (waits q) ((q.place == place) && counts_of q) one.1 in
        counts_by_place q z (q.place == place) refl mine its_end one.0 two.0 two.1);
    unended = unended;
    uncommitted = uncommitted;
  }
