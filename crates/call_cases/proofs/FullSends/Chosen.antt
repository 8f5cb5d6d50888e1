-- The attempt of a call that was drained furthest can have the call, where the call is open and not committed; and nothing came for it before.
use Rattle.call_actions.specs.Order.{IsInTurn, goes_on_followed}
use Rattle.call_actions.proofs.CallsApart.Acts.{IsIn, at_place, in_filter}
use Rattle.call_actions.specs.CallsApart.Apart.{IsBook}
use Rattle.call_actions.specs.Sees.{is_live}
use Rattle.session_actions.specs.Attempts.{commitment, is_followed, is_later_of, is_of, is_outstanding, is_over, is_queued}
use Rattle.session_actions.specs.Commitments.{furthest, is_further}
use Rattle.session_actions.specs.Words.{earlier, foremost, numbered}
use Rattle.session_actions.specs.declared.attempt.Attempt.{Attempt}
use Rattle.session_actions.specs.declared.call.Call.{Call}
use Rattle.session_actions.specs.declared.seen.Seen.{Seen}
use Rattle.session_order.proofs.Changed.{none_from, passes_not}
use Rattle.std.proofs.Common.{Bool, List, None, Option, Some, [], ap, arith, cond, eqb-true, false, filter, if◌then◌else◌, is_none, is_some, nat_lt, not, refl, slice_get, suc, sym, true, zero, ℕ, ◌&&◌, ◌==◌, ◌||◌, ◌∙◌, ◌∷◌, ◌≡◌}
use Rattle.std.proofs.lemmas.Bool.{and_parts, eq-eqb}
use Rattle.std.proofs.lemmas.Bool.Decides.{nat_tests}
use Rattle.call_actions.specs.TakeActions.Cuts.{CanCommit, is_twin}

pick_in : (x y : Attempt) (xs : List Attempt) (b : Bool) (a : Attempt) → IsIn xs y → Some (if b then y else x) ≡ Some a → IsIn (x ∷ xs) a
pick_in x y xs true a there e =
    let one : y ≡ a = (cc) in record { index = suc there.index; here = there.here ∙ ap (λ (z : Attempt). Some z) one }
pick_in x y xs false a there e = record { index = zero; here = e }

first_in : (before : Attempt → Attempt → Bool) (x : Attempt) (xs : List Attempt) (o : Option Attempt) (a : Attempt) → foremost before xs ≡ o → ((y : Attempt) → o ≡ Some y → IsIn xs y)
    → Some (earlier before x o) ≡ Some a → IsIn (x ∷ xs) a
first_in before x xs None a is rest e = record { index = zero; here = e }
first_in before x xs (Some y) a is rest e = pick_in x y xs (before y x) a (rest y refl) e

foremost_in : (before : Attempt → Attempt → Bool) (xs : List Attempt) (a : Attempt) → foremost before xs ≡ Some a → IsIn xs a
foremost_in before [] a e = absurd (cc)
foremost_in before (x ∷ xs) a e = first_in before x xs (foremost before xs) a refl (λ y is. foremost_in before xs y is) e

-- one of those that pass a test passes it
passes_if : (p : Attempt → Bool) (x : Attempt) (xs : List Attempt) (b : Bool) → p x ≡ b → (i : ℕ) (a : Attempt) → slice_get (cond b (x ∷ filter p xs) (filter p xs)) i ≡ Some a
    → ((j : ℕ) → slice_get (filter p xs) j ≡ Some a → p a ≡ true) → p a ≡ true
passes_if p x xs true e zero a got rest = let one : x ≡ a = (cc) in sym (ap p one) ∙ e
passes_if p x xs true e (suc i) a got rest = rest i got
passes_if p x xs false e i a got rest = rest i got

filter_passes : (p : Attempt → Bool) (xs : List Attempt) (i : ℕ) (a : Attempt) → slice_get (filter p xs) i ≡ Some a → p a ≡ true
filter_passes p [] i a got = absurd (cc)
filter_passes p (x ∷ xs) i a got = passes_if p x xs (p x) refl i a got (λ j e. filter_passes p xs j a e)

-- of three tests
three : (a b c : Bool) → a ≡ true → b ≡ true → c ≡ true → (a && b && c) ≡ true
three true true true p q r = refl
three false b c p q r = absurd (cc)
three true false c p q r = absurd (cc)
three true true false p q r = absurd (cc)

not_ended : (outstanding queued placed ended over : Bool) → outstanding ≡ (placed && ended) → queued ≡ ((not placed && ended) && not over) → (outstanding || queued) ≡ true → ended ≡ true
not_ended outstanding queued true true over p q e = refl
not_ended outstanding queued false true over p q e = refl
not_ended outstanding queued true false over p q e = absurd (let bad : (outstanding || queued) ≡ false = ap (λ (b : Bool). b || queued) p ∙ q in (cc))
not_ended outstanding queued false false over p q e = absurd (let bad : (outstanding || queued) ≡ false = ap (λ (b : Bool). b || queued) p ∙ q in (cc))

none_some : {X : Type 0} (o : Option X) → is_none o ≡ not (is_some o)
none_some None = refl
none_some (Some x) = refl

-- an attempt that is outstanding, where its call is open and not committed
module _ (s : Seen) (c : Call) (turn : IsInTurn s c) (going : c.end ≡ None) (uncommitted : commitment c s ≡ None) (k : Attempt) (at : numbered s.attempts k.place ≡ Some k)
    (own : is_of c k ≡ true) (out : is_outstanding k ≡ true) where
  -- no other attempt that goes on has its number
  unfollowed : (n : ℕ) (a : Attempt) → numbered s.attempts n ≡ Some a → goes_on_followed s c a ≡ false
  unfollowed n a e = passes_not (goes_on_followed s c) s.attempts n a turn.unfollowed e

  later_any : (a b : Attempt) (n : ℕ) → numbered s.attempts n ≡ Some b → is_later_of a b ≡ true → is_followed a s ≡ false → ⊥
  later_any a b n e later none =
      let not_it : is_later_of a b ≡ false = passes_not (is_later_of a) s.attempts n b none e in
      let bad : true ≡ false = sym later ∙ not_it in (cc)

  followed_not : (a : Attempt) (n : ℕ) → numbered s.attempts n ≡ Some a → is_of c a ≡ true → is_none a.row.ended ≡ true → (b : Bool) → is_followed a s ≡ b → b ≡ false
  followed_not a n e mine goes false f = refl
  followed_not a n e mine goes true f =
      let yes_ : goes_on_followed s c a ≡ true = three (is_of c a) (is_none a.row.ended) (is_followed a s) mine goes f in
      let bad : true ≡ false = sym yes_ ∙ unfollowed n a e in absurd (cc)

  live_goes : (a : Attempt) → is_live s c a ≡ true → (is_of c a ≡ true) × (is_none a.row.ended ≡ true)
  live_goes a live =
      let parts : (is_of c a ≡ true) × ((is_outstanding a || is_queued a s) ≡ true) = and_parts (is_of c a) (is_outstanding a || is_queued a s) live in (
        parts.0,
        not_ended (is_outstanding a) (is_queued a s) (is_some a.row.placed) (is_none a.row.ended) (is_over a s) refl
            (ap (λ (b : Bool). (b && is_none a.row.ended) && not (is_over a s)) (none_some a.row.placed)) parts.1,
      )

  out_goes : is_none k.row.ended ≡ true
  out_goes = (and_parts (is_some k.row.placed) (is_none k.row.ended) out).1

  calls_same : (a : Attempt) → is_of c a ≡ true → a.row.call ≡ k.row.call
  calls_same a mine = eqb-true a.row.call c.number mine ∙ sym (eqb-true k.row.call c.number own)

  later_than : (a b : Attempt) → b.row.call ≡ a.row.call → b.row.number ≡ a.row.number → nat_lt a.place b.place ≡ true → is_later_of a b ≡ true
  later_than a b call number place =
      three (b.row.call == a.row.call) (b.row.number == a.row.number) (nat_lt a.place b.place) (eq-eqb b.row.call a.row.call call) (eq-eqb b.row.number a.row.number number) place

  twin_by : (n : ℕ) (a : Attempt) (e : numbered s.attempts n ≡ Some a) → is_live s c a ≡ true → (k.row.number == a.row.number) ≡ true → (k.place == a.place) ≡ false
      → (b : Bool) → nat_lt k.place a.place ≡ b → ⊥
  twin_by n a e live number other true lower =
      later_any k a n e
      (later_than k a (calls_same a (live_goes a live).0) (sym (eqb-true k.row.number a.row.number number)) lower)
      (followed_not k k.place at own out_goes (is_followed k s) refl)
  twin_by n a e live number other false lower =
      let above : nat_lt a.place k.place ≡ true = grind (arith, nat_tests) in
      later_any a k k.place at
      (later_than a k (sym (calls_same a (live_goes a live).0)) (eqb-true k.row.number a.row.number number) above)
      (followed_not a n e (live_goes a live).0 (live_goes a live).1 (is_followed a s) refl)

  twin_not : (n : ℕ) (a : Attempt) → numbered s.attempts n ≡ Some a → (b : Bool) → is_twin s c k a ≡ b → b ≡ false
  twin_not n a e false is = refl
  twin_not n a e true is =
      let one : ((is_live s c a && (k.row.number == a.row.number)) ≡ true) × (not (k.place == a.place) ≡ true)
      = and_parts (is_live s c a && (k.row.number == a.row.number)) (not (k.place == a.place)) is in
      let two : (is_live s c a ≡ true) × ((k.row.number == a.row.number) ≡ true) = and_parts (is_live s c a) (k.row.number == a.row.number) one.0 in
      absurd (twin_by n a e two.0 two.1 (turned (k.place == a.place) one.1) (nat_lt k.place a.place) refl)
    where
      turned : (b : Bool) → not b ≡ true → b ≡ false
      turned true e = absurd (cc)
      turned false e = refl

  pub can_commit : CanCommit s c k
  can_commit = record {
    at = at;
    mine = own;
    outstanding = out;
    open_now = going;
    free = uncommitted;
    alone = none_from (is_twin s c k) s.attempts (λ n a e. twin_not n a e (is_twin s c k a) refl);
  }

-- the one that was drained furthest
module _ (s : Seen) (c : Call) (book : IsBook s) (turn : IsInTurn s c) (going : c.end ≡ None) (uncommitted : commitment c s ≡ None) (k : Attempt) (far : furthest c s ≡ Some k) where
  abbrev mine_out : Attempt → Bool
  mine_out a = is_of c a && is_outstanding a

  there_filtered : IsIn (filter mine_out s.attempts) k
  there_filtered = foremost_in (is_further s) (filter mine_out s.attempts) k far

  pub there : IsIn s.attempts k
  there = in_filter mine_out s.attempts there_filtered.index k there_filtered.here

  both : (is_of c k ≡ true) × (is_outstanding k ≡ true)
  both = and_parts (is_of c k) (is_outstanding k) (filter_passes mine_out s.attempts there_filtered.index k there_filtered.here)

  pub at : numbered s.attempts k.place ≡ Some k
  at = at_place s.attempts k book.places there

  pub can : CanCommit s c k
  can = can_commit s c turn going uncommitted k at both.0 both.1
