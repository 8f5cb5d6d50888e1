-- An attempt that is made fits: a transparent retry follows the last one of its number, and any other is the first one of its number.
use Rattle.attempt_ledger.specs.Numbering.{is_transparent}
use Rattle.attempt_ledger.specs.TransparentRows.{is_by_peer, is_refused, is_unsent}
use Rattle.attempt_ledger.specs.declared.row.RowCause.TheVariants as cause
use Rattle.attempt_ledger.specs.declared.row.RowCause.{RowCause}
use Rattle.attempt_ledger.specs.declared.row.RowEnd.{RowEnd}
use Rattle.attempt_ledger.specs.declared.row.RowKind.{RowKind}
use Rattle.channel_actions.proofs.KeptSessions.Lists.{counted_places}
use Rattle.channel_actions.proofs.TransparentRetries.Fits.{IsNew, IsWanted}
use Rattle.channel_actions.proofs.TransparentRetries.Rows.{HasLater, IsNextRow, Retried, SameNumber, is_again}
use Rattle.channel_actions.specs.KeptSessions.Kept.{IsKept}
use Rattle.session_actions.specs.Attempts.{call_of, commitment, is_followed, is_later_of, is_of, is_to_follow, wants_follower_by, was_refused, was_retried_so}
use Rattle.session_actions.specs.DueAttempts.{attempts_made}
use Rattle.session_actions.specs.Making.{new_row}
use Rattle.session_actions.specs.Words.{holds, numbered}
use Rattle.session_actions.specs.declared.attempt.Attempt.{Attempt}
use Rattle.session_actions.specs.declared.call.Call.{Call}
use Rattle.session_actions.specs.declared.seen.Seen.{Seen}
use Rattle.session_order.specs.SessionLaws.Attempts.{IsCounted, RetriesRepeat, is_further_of}
use Rattle.std.proofs.Common.{ap, arith, inl, inr, subst, sym, ◌∙◌}
use Rattle.std.proofs.lemmas.Bool.{and_from, and_parts, eq-eqb, lt-ltb}
use Rattle.std.proofs.lemmas.List.Sums.{length-filter}
use Rattle.std.specs.List.{list_any}
use Rattle.std.specs.Prelude.{Bool, List, None, Option, Some, [], cond, count_by, false, filter, is_none, length, nat_lt, not, refl, slice_get, suc, take, true, zero, ℕ, ◌&&◌, ◌+◌, ◌<◌, ◌==◌, ◌||◌, ◌∷◌, ◌≡◌, ◌≤◌, ◌⊎◌}

-- what a list has

or_any : (b c : Bool) → (c ≡ true) → (b || c) ≡ true
or_any true c e = refl
or_any false c e = e

any_at : {X : Type 0} (p : X → Bool) (xs : List X) (i : ℕ) (x : X) → slice_get xs i ≡ Some x → p x ≡ true → list_any p xs ≡ true
any_at p [] i x got e = absurd (cc)
any_at p (y ∷ xs) zero x got e = let one : y ≡ x = (cc) in ap (λ (b : Bool). b || list_any p xs) (ap p one ∙ e)
any_at p (y ∷ xs) (suc i) x got e = or_any (p y) (list_any p xs) (any_at p xs i x got e)

same_number : (n m : ℕ) → n ≡ m → (n == m) ≡ true
same_number n m e = eq-eqb n m e

less_is : (n m : ℕ) → n < m → nat_lt n m ≡ true
less_is n m e = lt-ltb n m e

-- which of two comes first
abbrev pub Which : ℕ → ℕ → Type 0
Which i j = (i < j) ⊎ ((i ≡ j) ⊎ (j < i))

which_step : (i j : ℕ) → Which i j → Which (suc i) (suc j)
which_step i j (inl e) = inl (omega (arith, e))
which_step i j (inr (inl e)) = inr (inl (omega (arith, e)))
which_step i j (inr (inr e)) = inr (inr (omega (arith, e)))

pub which : (i j : ℕ) → Which i j
which zero zero = inr (inl refl)
which zero (suc j) = inl (omega arith)
which (suc i) zero = inr (inr (omega arith))
which (suc i) (suc j) = which_step i j (which i j)

-- by the tests of an end
again_by : (unsent unseen peer free once : Bool) → (unsent || (unseen && peer && free && once)) ≡ true → (unsent || (unseen && peer)) ≡ true
again_by true unseen peer free once e = refl
again_by false true true free once e = refl
again_by false true false free once e = absurd (cc)
again_by false false peer free once e = absurd (cc)

once_by : (unsent unseen peer free once : Bool) → unsent ≡ false → (unsent || (unseen && peer && free && once)) ≡ true → once ≡ true
once_by true unseen peer free once none e = absurd (cc)
once_by false true true true once none e = e
once_by false true true false once none e = absurd (cc)
once_by false true false free once none e = absurd (cc)
once_by false false peer free once none e = absurd (cc)

sent_one : (why : RowCause) → is_by_peer why ≡ true → is_unsent why ≡ false
sent_one cause.Unsent e = absurd (cc)
sent_one _ e = refl

not_true : (b : Bool) → not b ≡ true → b ≡ false
not_true true e = absurd (cc)
not_true false e = refl

one_some : {X : Type 0} (x y : X) → Some x ≡ Some y → x ≡ y
one_some x y e = (cc)

-- one with a later one of its number is followed
module _ (s : Seen) (kept : IsKept s) where
  place_of : (i : ℕ) (a : Attempt) → slice_get s.attempts i ≡ Some a → a.place ≡ suc i
  place_of i a got = counted_places (λ (z : Attempt). z.place) s.attempts kept.attempts (suc i) a got

  comes_after : (i j : ℕ) (a b : Attempt) → slice_get s.attempts i ≡ Some a → slice_get s.attempts j ≡ Some b → i < j → SameNumber a b → is_later_of a b ≡ true
  comes_after i j a b first second less same =
      let p : a.place ≡ suc i = place_of i a first in
      let r : b.place ≡ suc j = place_of j b second in
      let before : a.place < b.place = omega (arith, p, r, less) in
      and_from ((b.row.call == a.row.call) && (b.row.number == a.row.number)) (nat_lt a.place b.place)
      (and_from (b.row.call == a.row.call) (b.row.number == a.row.number) (same_number b.row.call a.row.call (sym same.0)) (same_number b.row.number a.row.number (sym same.1)))
      (less_is a.place b.place before)

  pub followed_by : (i : ℕ) (a : Attempt) → slice_get s.attempts i ≡ Some a → HasLater s.attempts i a → is_followed a s ≡ true
  followed_by i a got l = any_at (is_later_of a) s.attempts l.index l.later l.here (comes_after i l.index a l.later got l.here l.afterwards l.same)

-- a transparent retry
module _ (s : Seen) (kept : IsKept s) (h : Retried s) (w : ℕ) (q : Attempt) (there : slice_get s.attempts w ≡ Some q) (e : RowEnd) (ended : q.row.ended ≡ Some e)
    (free : is_followed q s ≡ false) (c : Call) (its : call_of q s ≡ Some c) (may : is_to_follow c e.cause e.unseen s ≡ true) where
  none_afterwards : (j : ℕ) (b : Attempt) → slice_get s.attempts j ≡ Some b → w < j → SameNumber q b → ⊥
  none_afterwards j b got less same =
      let yes_ : is_followed q s ≡ true = followed_by s kept w q there (record { index = j; later = b; here = got; afterwards = less; same = same }) in
      let no : false ≡ true = sym free ∙ yes_ in (cc)

  -- so one of its number is before it, or is it
  abbrev Stands : ℕ → Attempt → Type 0
  Stands i a = HasLater s.attempts i a ⊎ ((i ≡ w) × (a ≡ q))

  stands_by : (i : ℕ) (a : Attempt) → slice_get s.attempts i ≡ Some a → SameNumber a q → Which i w → Stands i a
  stands_by i a got same (inl less) = inl (record { index = w; later = q; here = there; afterwards = less; same = same })
  stands_by i a got same (inr (inl here)) = inr (here, one_some a q (sym got ∙ (ap (slice_get s.attempts) here ∙ there)))
  stands_by i a got same (inr (inr less)) = absurd (none_afterwards i a got less (sym same.0, sym same.1))

  q_again : holds is_again q.row.ended ≡ true
  q_again =
      ap (holds is_again) ended
      ∙ again_by (is_unsent e.cause) e.unseen (is_by_peer e.cause) (is_none (commitment c s)) (not (was_retried_so c s)) may

  again_by_place : (i : ℕ) (a : Attempt) → slice_get s.attempts i ≡ Some a → Stands i a → holds is_again a.row.ended ≡ true
  again_by_place i a got (inl l) = h.ended i a got l
  again_by_place i a got (inr here) = ap (λ (z : Attempt). holds is_again z.row.ended) here.1 ∙ q_again

  -- one that was refused, and its call had another such
  number_is : c.number ≡ q.row.call
  number_is = counted_places (λ (z : Call). z.number) s.calls kept.calls q.row.call c its

  twice : (i : ℕ) (a : Attempt) → slice_get s.attempts i ≡ Some a → HasLater s.attempts i a → was_refused a ≡ true → a.row.call ≡ q.row.call → was_refused q ≡ true → ⊥
  twice i a got l refused call again =
      let by_end : is_refused e ≡ true = sym (ap (holds is_refused) ended) ∙ again in
      let peer : is_by_peer e.cause ≡ true = (and_parts e.unseen (is_by_peer e.cause) by_end).1 in
      let once : not (was_retried_so c s) ≡ true
      = once_by (is_unsent e.cause) e.unseen (is_by_peer e.cause) (is_none (commitment c s)) (not (was_retried_so c s)) (sent_one e.cause peer) may in
      let own : is_of c a ≡ true = same_number a.row.call c.number (call ∙ sym number_is) in
      let was : was_retried_so c s ≡ true
      = any_at (λ (z : Attempt). is_of c z && was_refused z && is_followed z s) s.attempts i a got
      (and_from (is_of c a && was_refused a) (is_followed a s) (and_from (is_of c a) (was_refused a) own refused) (followed_by s kept i a got l)) in
      let no : false ≡ true = sym (not_true (was_retried_so c s) once) ∙ was in (cc)

  once_at : (i j : ℕ) (a d : Attempt) → slice_get s.attempts i ≡ Some a → slice_get s.attempts j ≡ Some d → a.row.call ≡ d.row.call → Stands i a → Stands j d
      → was_refused a ≡ true → was_refused d ≡ true → i ≡ j
  once_at i j a d first second call (inl l) (inl m) f g = h.refused i j a d first second call l m f g
  once_at i j a d first second call (inl l) (inr m) f g =
      absurd (twice i a first l f (call ∙ ap (λ (z : Attempt). z.row.call) m.1) (sym (ap was_refused m.1) ∙ g))
  once_at i j a d first second call (inr l) (inl m) f g =
      absurd (twice j d second m g (sym call ∙ ap (λ (z : Attempt). z.row.call) l.1) (sym (ap was_refused l.1) ∙ f))
  once_at i j a d first second call (inr l) (inr m) f g = l.0 ∙ sym m.0

  stands_in : (b : Attempt) → SameNumber q b → (i : ℕ) (a : Attempt) → slice_get s.attempts i ≡ Some a → HasLater s.attempts i a ⊎ SameNumber a b → Stands i a
  stands_in b same i a got (inl l) = inl l
  stands_in b same i a got (inr k) = stands_by i a got (k.0 ∙ sym same.0, k.1 ∙ sym same.1) (which i w)

  pub retry_fits : (b : Attempt) → SameNumber q b → b.row.ended ≡ None → b.row.placed ≡ None → IsNextRow s.attempts b
  retry_fits b same unended unplaced = record {
    unended = unended;
    unplaced = unplaced;
    again = λ i a got k. again_by_place i a got (stands_in b same i a got (inr k));
    once = λ i j a d first second call l m f g.
        once_at i j a d first second call (stands_in b same i a first l) (stands_in b same j d second m) f g;
  }

-- what an attempt that wants a follower says
record IsWanting (s : Seen) (q : Attempt) : Type 0 where
  end : RowEnd
  ended : q.row.ended ≡ Some end
  free : is_followed q s ≡ false
  call : Call
  its : call_of q s ≡ Some call
  may : is_to_follow call end.cause end.unseen s ≡ true

wanting_of : (s : Seen) (q : Attempt) (e : RowEnd) (o : Option Call) → q.row.ended ≡ Some e → call_of q s ≡ o
    → (not (is_followed q s) && holds (λ (c : Call). is_to_follow c e.cause e.unseen s) o) ≡ true → IsWanting s q
wanting_of s q e None ended its wants =
    absurd (let no : false ≡ true = (and_parts (not (is_followed q s)) false wants).1 in (cc))
wanting_of s q e (Some c) ended its wants =
    let both : (not (is_followed q s) ≡ true) × (is_to_follow c e.cause e.unseen s ≡ true) = and_parts (not (is_followed q s)) (is_to_follow c e.cause e.unseen s) wants in
    record { end = e; ended = ended; free = not_true (is_followed q s) both.0; call = c; its = its; may = both.1 }

wanting_by : (s : Seen) (q : Attempt) (o : Option RowEnd) → q.row.ended ≡ o → holds (wants_follower_by q s) o ≡ true → IsWanting s q
wanting_by s q None ended wants = absurd (cc)
wanting_by s q (Some e) ended wants =
    wanting_of s q e (call_of q s) ended refl wants

-- numbers: no attempt has a higher one than were made of its call
take_less : {X : Type 0} (p : X → Bool) (n : ℕ) (xs : List X) → length (filter p (take n xs)) ≤ length (filter p xs)
take_less p zero [] = omega arith
take_less p zero (x ∷ xs) = omega arith
take_less p (suc n) [] = omega arith
take_less p (suc n) (x ∷ xs) = by (p x) (take_less p n xs)
  where
    by : (b : Bool) → length (filter p (take n xs)) ≤ length (filter p xs) → length (cond b (x ∷ filter p (take n xs)) (filter p (take n xs))) ≤ length (cond b (x ∷ filter p xs) (filter p xs))
    by true less = omega (arith, less)
    by false less = less

count_less : {X : Type 0} (p : X → Bool) (n : ℕ) (xs : List X) → count_by p (take n xs) ≤ count_by p xs
count_less p n xs =
    let one : length (filter p (take n xs)) ≡ count_by p (take n xs) = length-filter p (take n xs) in
    let two : length (filter p xs) ≡ count_by p xs = length-filter p xs in
    let less : length (filter p (take n xs)) ≤ length (filter p xs) = take_less p n xs in
    on (length (filter p (take n xs))) (length (filter p xs)) (count_by p (take n xs)) (count_by p xs) one two less
  where
    on : (a b c d : ℕ) → a ≡ c → b ≡ d → a ≤ b → c ≤ d
    on a b c d e f g = omega (arith, e, f, g)

module _ (s : Seen) (counted : IsCounted s) (repeat : RetriesRepeat s) where
  number_by : (left place : ℕ) (a : Attempt) (b : Bool) → place < left → numbered s.attempts place ≡ Some a → is_transparent a.row.kind ≡ b
      → ((p : ℕ) (q : Attempt) → p < place → numbered s.attempts p ≡ Some q → q.row.number ≤ count_by (is_further_of q.row.call) s.attempts)
      → a.row.number ≤ count_by (is_further_of a.row.call) s.attempts
  number_by left place a false less got is rec =
      let same : a.row.number ≡ count_by (is_further_of a.row.call) (take place s.attempts) = counted place a got is in
      let most : count_by (is_further_of a.row.call) (take place s.attempts) ≤ count_by (is_further_of a.row.call) s.attempts = count_less (is_further_of a.row.call) place s.attempts in
      on a.row.number (count_by (is_further_of a.row.call) (take place s.attempts)) (count_by (is_further_of a.row.call) s.attempts) same most
    where
      on : (a b c : ℕ) → a ≡ b → b ≤ c → a ≤ c
      on a b c e f = omega (arith, e, f)
  number_by left place a true less got is rec =
      let r = repeat place a got is in
      let before : r.1.row.number ≤ count_by (is_further_of r.1.row.call) s.attempts = rec r.0 r.1 r.3 r.2 in
      subst (λ (n : ℕ). n ≤ count_by (is_further_of a.row.call) s.attempts) r.5 (subst (λ (n : ℕ). r.1.row.number ≤ count_by (is_further_of n) s.attempts) r.4 before)

  numbers_from : (left place : ℕ) (a : Attempt) → place < left → numbered s.attempts place ≡ Some a → a.row.number ≤ count_by (is_further_of a.row.call) s.attempts
  numbers_from zero place a less got = absurd (omega (arith, less))
  numbers_from (suc left) place a less got =
      number_by (suc left) place a (is_transparent a.row.kind) less got refl
      (λ p q before at. numbers_from left p q (on p place left before less) at)
    where
      on : (p n m : ℕ) → p < n → n < suc m → p < m
      on p n m e f = omega (arith, e, f)

  pub numbers_below : (i : ℕ) (a : Attempt) → slice_get s.attempts i ≡ Some a → a.row.number ≤ count_by (is_further_of a.row.call) s.attempts
  numbers_below i a got = numbers_from (suc (suc i)) (suc i) a (omega arith) got

-- and any other attempt is the first one of its number
above : (n m : ℕ) → n ≤ m → n ≡ m + 1 → ⊥
above n m e f = omega (arith, e, f)

pub new_fits : (s : Seen) (c : Call) (b : Attempt) → IsCounted s → RetriesRepeat s → b.row.call ≡ c.number → b.row.number ≡ attempts_made c s + 1 → b.row.ended ≡ None
    → b.row.placed ≡ None → Retried s → IsNextRow s.attempts b
new_fits s c b counted repeat call number unended unplaced h = record {
  unended = unended;
  unplaced = unplaced;
  again = λ i a got k. absurd (never i a got k);
  once = λ i j a d first second same l m f g. h.refused i j a d first second same (old i a first l) (old j d second m) f g;
}
  where
    never : (i : ℕ) (a : Attempt) → slice_get s.attempts i ≡ Some a → SameNumber a b → ⊥
    never i a got k =
        let low : a.row.number ≤ count_by (is_further_of a.row.call) s.attempts = numbers_below s counted repeat i a got in
        let here : a.row.call ≡ c.number = k.0 ∙ call in
        let low_here : a.row.number ≤ count_by (is_further_of c.number) s.attempts = subst (λ (n : ℕ). a.row.number ≤ count_by (is_further_of n) s.attempts) here low in
        above a.row.number (attempts_made c s) low_here (k.1 ∙ number)

    old : (i : ℕ) (a : Attempt) → slice_get s.attempts i ≡ Some a → HasLater s.attempts i a ⊎ SameNumber a b → HasLater s.attempts i a
    old i a got (inl l) = l
    old i a got (inr k) = absurd (never i a got k)

pub made_fits : (s : Seen) (call number : ℕ) (k : RowKind) (due place made : ℕ) → IsKept s → IsCounted s → RetriesRepeat s → IsWanted call number s ⊎ IsNew call number s → Retried s
    → IsNextRow s.attempts (record { place = place; row = new_row call number k due; made = made; reset = false })
made_fits s call number k due place made kept counted repeat (inl w) h =
    let q : IsWanting s w.here = wanting_by s w.here w.here.row.ended refl w.wants in
    retry_fits s kept h w.index w.here w.there q.end q.ended q.free q.call q.its q.may (record { place = place; row = new_row call number k due; made = made; reset = false })
    (w.call, w.number) refl refl
made_fits s call number k due place made kept counted repeat (inr n) h =
    new_fits s n.here (record { place = place; row = new_row call number k due; made = made; reset = false }) counted repeat (sym n.is) n.number refl refl h
