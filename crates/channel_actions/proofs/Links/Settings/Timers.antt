-- The timers of one call move; those of the others stay.
use Rattle.std.proofs.Common.{◌≡◌, ◌∙◌, ℕ, ◌==◌, Bool, true, false, not, ◌&&◌, ◌||◌, List, Option, None, Some, refl, ap, sym, subst, arith, if◌then◌else◌}
use Rattle.std.proofs.lemmas.Bool.Decides.{nat_tests}
use Rattle.channel_actions.specs.Sets.{PairsAreExactly}
use Rattle.channel_core.specs.Timing.{is_same_moment, timer_moved, timer_off, timer_on}
use Rattle.picker_gate.specs.Pairs.{is_same}
use Rattle.session_actions.specs.Words.{is_number}
use Rattle.channel_actions.proofs.Links.Settings.Pairs.{exactly_by, exactly_insert, exactly_remove, same_back}

equal_numbers : (n m : ℕ) → (n == m) ≡ true → n ≡ m
equal_numbers n m h = grind (arith, nat_tests)

same_moment : (a b : Option ℕ) → is_same_moment a b ≡ true → a ≡ b
same_moment None None e = refl
same_moment None (Some n) e = absurd (cc)
same_moment (Some m) None e = absurd (cc)
same_moment (Some m) (Some n) e = ap (λ (k : ℕ). Some k) (equal_numbers m n e)

pub own_key : (moment m n : ℕ) → is_same (moment, n) (m, n) ≡ (moment == m)
own_key moment m n = grind (arith, nat_tests)

pub other_key : (moment m k n : ℕ) → (k == n) ≡ false → is_same (moment, n) (m, k) ≡ false
other_key moment m k n e = grind (arith, nat_tests)

and_true : (b : Bool) → (b && true) ≡ b
and_true true = refl
and_true false = refl

and_not : (b : Bool) → (b && not b) ≡ false
and_not true = refl
and_not false = refl

or_false : (b : Bool) → (b || false) ≡ b
or_false true = refl
or_false false = refl

-- what a set has of one number, and of others: two tests are the same where they are of both
pub by_number : (n : ℕ) (one other : ℕ → ℕ → Bool) → ((m k : ℕ) → (k == n) ≡ false → one m k ≡ other m k) → ((m : ℕ) → one m n ≡ other m n) → (m k : ℕ) (b : Bool)
    → (k == n) ≡ b → one m k ≡ other m k
by_number n one other away here m k true e = subst (λ (z : ℕ). one m z ≡ other m z) (sym (equal_numbers k n e)) (here m)
by_number n one other away here m k false e = away m k e

module _ (n : ℕ) (timers : List (ℕ × ℕ)) (test : ℕ → ℕ → Bool) (before after : Option ℕ) (h : PairsAreExactly timers test) (was : (m : ℕ) → test m n ≡ is_number m before) where
  -- the pair of the call that is taken out
  abbrev left : Option ℕ → ℕ → ℕ → Bool
  left None m k = test m k
  left (Some moment) m k = test m k && not (is_same (moment, n) (m, k))

  off_by : (o : Option ℕ) → PairsAreExactly (timer_off n o timers) (left o)
  off_by None = h
  off_by (Some moment) = exactly_remove timers test (moment, n) h

  left_away : (o : Option ℕ) (m k : ℕ) → (k == n) ≡ false → left o m k ≡ test m k
  left_away None m k e = refl
  left_away (Some moment) m k e = ap (λ (b : Bool). test m k && not b) (other_key moment m k n e) ∙ and_true (test m k)

  left_here : (o : Option ℕ) → before ≡ o → (m : ℕ) → left o m n ≡ false
  left_here None e m = was m ∙ ap (is_number m) e
  left_here (Some moment) e m =
      ap (λ (b : Bool). b && not (is_same (moment, n) (m, n))) (was m ∙ ap (is_number m) e)
      ∙ ap (λ (b : Bool). (moment == m) && not b) (own_key moment m n) ∙ and_not (moment == m)

  -- and the one that is put in
  abbrev with_new : Option ℕ → (ℕ → ℕ → Bool) → ℕ → ℕ → Bool
  with_new None rest m k = rest m k
  with_new (Some moment) rest m k = is_same (m, k) (moment, n) || rest m k

  on_by : (o : Option ℕ) (pairs : List (ℕ × ℕ)) (rest : ℕ → ℕ → Bool) → PairsAreExactly pairs rest → PairsAreExactly (timer_on n o pairs) (with_new o rest)
  on_by None pairs rest k = k
  on_by (Some moment) pairs rest k = exactly_insert pairs rest (moment, n) k

  new_away : (o : Option ℕ) (rest : ℕ → ℕ → Bool) (m k : ℕ) → (k == n) ≡ false → with_new o rest m k ≡ rest m k
  new_away None rest m k e = refl
  new_away (Some moment) rest m k e = ap (λ (b : Bool). b || rest m k) (same_back (m, k) (moment, n) ∙ other_key moment m k n e)

  new_here : (o : Option ℕ) (rest : ℕ → ℕ → Bool) (m : ℕ) → rest m n ≡ false → with_new o rest m n ≡ is_number m o
  new_here None rest m e = e
  new_here (Some moment) rest m e =
      ap (λ (b : Bool). is_same (m, n) (moment, n) || b) e ∙ or_false (is_same (m, n) (moment, n)) ∙ same_back (m, n) (moment, n) ∙ own_key moment m n

  module _ (other : ℕ → ℕ → Bool) (away : (m k : ℕ) → (k == n) ≡ false → other m k ≡ test m k) (is : (m : ℕ) → other m n ≡ is_number m after) where
    moved_by : (b : Bool) → is_same_moment before after ≡ b → PairsAreExactly (if b then timers else timer_on n after (timer_off n before timers)) other
    moved_by true e =
        exactly_by timers test other h
        (λ m k. by_number n test other (λ i j f. sym (away i j f)) (λ i. was i ∙ ap (is_number i) (same_moment before after e) ∙ sym (is i)) m k (k == n) refl)
    moved_by false e =
        exactly_by (timer_on n after (timer_off n before timers)) (with_new after (left before)) other (on_by after (timer_off n before timers) (left before) (off_by before))
        (λ m k. by_number n (with_new after (left before)) other
        (λ i j f. new_away after (left before) i j f ∙ left_away before i j f ∙ sym (away i j f))
        (λ i. new_here after (left before) i (left_here before refl i) ∙ sym (is i)) m k (k == n) refl)

    pub timers_exactly : PairsAreExactly (timer_moved n before after timers) other
    timers_exactly = moved_by (is_same_moment before after) refl
