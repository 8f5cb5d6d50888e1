-- What is done to one call brings nothing about for another one. No attempt of another call waits for its follower then, no other call ends by its attempt, and no end
-- of another call's attempt is final, that was not so before.
use Rattle.std.proofs.Common.{◌≡◌, ◌==◌, ◌&&◌, ◌∷◌, ap, refl, sym, ◌∙◌, Bool, true, false, List, [], Option, None, Some, ℕ, zero, suc, is_some, slice_get}
use Rattle.std.proofs.lemmas.Bool.{eq-eqb, or_from}
use Rattle.std.specs.List.{list_any}
use Rattle.call_actions.proofs.CallsApart.Kept.{over_same, wants_same}
use Rattle.call_actions.proofs.Lists.{numbered_not}
use Rattle.call_actions.specs.CallsApart.Apart.{IsApart}
use Rattle.call_cases.proofs.EndsFollow.Apart.{final_in_same, holds_at, row_same}
use Rattle.channel_actions.proofs.Gone.{all_numbered}
use Rattle.call_cases.proofs.OtherCalls.Along.{goes_apart}
use Rattle.call_cases.proofs.OtherCalls.Rows.{number_at, others_are_same, rows_stay}
use Rattle.channel_actions.specs.Calls.{SeesCalls}
use Rattle.channel_actions.specs.KeptSessions.Kept.{IsKept}
use Rattle.call_cases.specs.OtherCalls.Others.{GoesApart}
use Rattle.channel_core.specs.States.{StateSeen}
use Rattle.session_actions.specs.Attempts.{call_of, is_of, is_outstanding, wants_follower, wants_follower_by}
use Rattle.session_actions.specs.CallEnds.{is_over_by_row}
use Rattle.session_actions.specs.Commitments.{is_final_end, is_final_in}
use Rattle.session_actions.specs.Words.{holds, numbered}
use Rattle.session_actions.specs.declared.attempt.Attempt.{Attempt}
use Rattle.session_actions.specs.declared.call.Call.{Call}
use Rattle.session_actions.specs.declared.seen.Seen.{Seen}
use Rattle.session_order.specs.Quiescent.{is_to_cut}

-- none passes, where each does not
pub none_at : {X : Type 0} (test : X → Bool) (xs : List X) → ((i : ℕ) (x : X) → slice_get xs i ≡ Some x → test x ≡ false) → list_any test xs ≡ false
none_at test [] each = refl
none_at test (x ∷ xs) each = or_from (test x) (list_any test xs) (each zero x refl) (none_at test xs (λ i y at. each (suc i) y at))

module _ (n : ℕ) (x : StateSeen) (s v : Seen) (apart : GoesApart n s v) (calls : SeesCalls x s) (kept : IsKept s) (kept_then : IsKept v) where
  -- another call
  pub record IsOther (g : Call) : Type 0 where
    pub own : numbered s.calls g.number ≡ Some g
    pub then_ : numbered v.calls g.number ≡ Some g
    pub still : IsApart s v g

  pub other : (m : ℕ) (g : Call) → (m == n) ≡ false → numbered v.calls m ≡ Some g → IsOther g
  other m g off at =
      let was : numbered s.calls m ≡ Some g = sym (others_are_same n s v apart m off) ∙ at in
      let place : g.number ≡ m = number_at s.calls m g kept.book.calls was in
      let own : numbered s.calls g.number ≡ Some g = ap (numbered s.calls) place ∙ was in
      record {
        own = own;
        then_ = ap (numbered v.calls) place ∙ at;
        still = goes_apart n g (ap (λ (i : ℕ). i == n) place ∙ off) s v apart own;
      }

  -- an attempt of another call
  module _ (i : ℕ) (q : Attempt) (at : slice_get v.attempts i ≡ Some q) (off : (q.row.call == n) ≡ false) where
    pub before : numbered s.attempts (suc i) ≡ Some q
    before = sym (rows_stay n s v apart (suc i) (ap (holds (λ (b : Attempt). b.row.call == n)) at ∙ off)) ∙ at

    owned : is_some (call_of q v) ≡ true
    owned = all_numbered (λ (b : Attempt). is_some (call_of b v)) v.attempts (suc i) q at kept_then.owned

    wants_by : (o : Option Call) → numbered v.calls q.row.call ≡ o → is_some o ≡ true → list_any (λ (b : Attempt). wants_follower b s) s.attempts ≡ false → wants_follower q v ≡ false
    wants_by None here some none = absurd (cc)
    wants_by (Some g) here some none =
        let is : IsOther g = other q.row.call g off here in
        let mine : is_of g q ≡ true = eq-eqb q.row.call g.number (sym (number_at v.calls q.row.call g kept_then.book.calls here)) in
        holds_at (wants_follower_by q v) (wants_follower_by q s) q.row.ended (λ e has. wants_same s v g is.still is.own q mine e)
        ∙ numbered_not (λ (b : Attempt). wants_follower b s) s.attempts (suc i) q none before

    pub wants_none : list_any (λ (b : Attempt). wants_follower b s) s.attempts ≡ false → wants_follower q v ≡ false
    wants_none none = wants_by (numbered v.calls q.row.call) refl owned none

    final_by : (o : Option Call) → numbered v.calls q.row.call ≡ o → is_some o ≡ true → list_any (is_final_end s) s.attempts ≡ false → is_final_end v q ≡ false
    final_by None here some none = absurd (cc)
    final_by (Some g) here some none =
        let is : IsOther g = other q.row.call g off here in
        let place : g.number ≡ q.row.call = number_at v.calls q.row.call g kept_then.book.calls here in
        let mine : is_of g q ≡ true = eq-eqb q.row.call g.number (sym place) in
        ap (holds (λ (c : Call). is_final_in q v c)) here
        ∙ final_in_same s v g is.still is.own (calls.each g.number g is.own).sees.order.marks q mine
        ∙ sym (ap (holds (λ (c : Call). is_final_in q s c)) (ap (numbered s.calls) (sym place) ∙ is.own))
        ∙ numbered_not (is_final_end s) s.attempts (suc i) q none before

    pub final_none : list_any (is_final_end s) s.attempts ≡ false → is_final_end v q ≡ false
    final_none none = final_by (numbered v.calls q.row.call) refl owned none

  -- another call ends by no attempt
  pub row_none : (m : ℕ) (g : Call) → (m == n) ≡ false → numbered v.calls m ≡ Some g → list_any (is_over_by_row s) s.calls ≡ false → is_over_by_row v g ≡ false
  row_none m g off at none =
      let is : IsOther g = other m g off at in
      row_same s v g is.still is.own (calls.each g.number g is.own).sees.order.marks ∙ numbered_not (is_over_by_row s) s.calls g.number g none is.own

  -- and no attempt of another call is to be cut off
  module _ (i : ℕ) (q : Attempt) (at : slice_get v.attempts i ≡ Some q) (off : (q.row.call == n) ≡ false) where
    over_by : (o : Option Call) → numbered v.calls q.row.call ≡ o → is_some o ≡ true → list_any (is_to_cut s) s.attempts ≡ false → is_to_cut v q ≡ false
    over_by None here some none = absurd (cc)
    over_by (Some g) here some none =
        let is : IsOther g = other q.row.call g off here in
        let mine : is_of g q ≡ true = eq-eqb q.row.call g.number (sym (number_at v.calls q.row.call g kept_then.book.calls here)) in
        ap (λ (b : Bool). is_outstanding q && b) (over_same s v g is.still is.own q mine) ∙ numbered_not (is_to_cut s) s.attempts (suc i) q none (before i q at off)

    pub cut_none : list_any (is_to_cut s) s.attempts ≡ false → is_to_cut v q ≡ false
    cut_none none = over_by (numbered v.calls q.row.call) refl (owned i q at off) none
