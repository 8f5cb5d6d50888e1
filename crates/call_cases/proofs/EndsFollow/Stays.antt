-- What stays while the attempts of a call that has ended are cut off and their streams are reset: every other call, and every line but those of cuts and resets.
use Rattle.std.proofs.Common.{◌≡◌, ◌&&◌, ◌==◌, ap, refl, sym, ◌∙◌, Bool, true, false, Option, None, Some, ℕ, is_none, is_some}
use Rattle.std.proofs.lemmas.Bool.{eq-eqb, eqb-true}
use Rattle.std.specs.List.{list_all, list_any}
use Rattle.call_actions.specs.Order.{is_own_mark}
use Rattle.call_actions.proofs.CallsApart.Kept.{over_same, wants_same}
use Rattle.call_actions.specs.CallsApart.Apart.{IsApart}
use Rattle.call_cases.proofs.EndsFollow.Apart.{final_in_same, holds_at, row_same}
use Rattle.call_cases.proofs.EndsFollow.Cuts.{IsDone}
use Rattle.session_actions.specs.AttemptEnds.{reset_code_of}
use Rattle.session_actions.specs.Attempts.{is_of, is_outstanding, wants_follower, wants_follower_by}
use Rattle.session_actions.specs.CallEnds.{is_over_by_row}
use Rattle.session_actions.specs.Commitments.{is_final_end, is_final_in}
use Rattle.session_actions.specs.Words.{holds, numbered}
use Rattle.session_actions.specs.declared.attempt.Attempt.{Attempt}
use Rattle.session_actions.specs.declared.call.Call.{Call}
use Rattle.session_actions.specs.declared.call.Mark.{Mark}
use Rattle.session_actions.specs.declared.seen.Seen.{Seen}
use Rattle.session_order.proofs.Changed.{none_from, passes_not}
use Rattle.session_order.specs.Quiescent.{is_to_cut}

-- what the session was where the call had just ended
pub record IsBase (n : ℕ) (b : Seen) : Type 0 where
  pub numbers : (k : ℕ) (d : Call) → numbered b.calls k ≡ Some d → d.number ≡ k
  pub owned : (p : ℕ) (x : Attempt) → numbered b.attempts p ≡ Some x → is_some (numbered b.calls x.row.call) ≡ true
  pub marks : (d : Call) → numbered b.calls d.number ≡ Some d → (d.number == n) ≡ false → list_all (λ (m : Mark). is_own_mark b d m.what) d.marks ≡ true
  pub row : list_any (is_over_by_row b) b.calls ≡ false
  pub final : list_any (is_final_end b) b.attempts ≡ false
  pub followed : list_any (λ (x : Attempt). wants_follower x b) b.attempts ≡ false
  pub cut : (p : ℕ) (x : Attempt) → numbered b.attempts p ≡ Some x → (x.row.call == n) ≡ false → is_to_cut b x ≡ false

-- a session that went on from there by what was done to the call
pub record IsLeft (n : ℕ) (b v : Seen) : Type 0 where
  pub done : IsDone n v
  pub apart : (d : Call) → numbered b.calls d.number ≡ Some d → (d.number == n) ≡ false → IsApart b v d
  pub calls : (k : ℕ) → (k == n) ≡ false → numbered v.calls k ≡ numbered b.calls k
  pub rows : (p : ℕ) (x : Attempt) → numbered v.attempts p ≡ Some x → (x.row.call == n) ≡ false → numbered b.attempts p ≡ Some x
  pub codes : (p : ℕ) (x : Attempt) → numbered v.attempts p ≡ Some x → (x.row.call == n) ≡ false → reset_code_of v x ≡ None

-- of such a session
module _ (n : ℕ) (b v : Seen) (base : IsBase n b) (is : IsLeft n b v) where
  other_call : (d : Call) (k : ℕ) → numbered b.calls k ≡ Some d → (k == n) ≡ false → (d.number == n) ≡ false
  other_call d k e off = ap (λ (m : ℕ). m == n) (base.numbers k d e) ∙ off

  own_there : (d : Call) (k : ℕ) → numbered b.calls k ≡ Some d → numbered b.calls d.number ≡ Some d
  own_there d k e = ap (numbered b.calls) (base.numbers k d e) ∙ e

  row_by : (k : ℕ) (c : Call) (q : Bool) → (k == n) ≡ q → numbered v.calls k ≡ Some c → is_over_by_row v c ≡ false
  row_by k c true e at =
      let same : Some c ≡ Some is.done.call = sym at ∙ ap (numbered v.calls) (eqb-true k n e) ∙ is.done.there in
      let one : c ≡ is.done.call = (cc) in
      ap (is_over_by_row v) one ∙ gone is.done.call.end is.done.ended _
    where
      gone : {X : Type 0} (o : Option X) → is_some o ≡ true → (q : Bool) → (is_none o && q) ≡ false
      gone None e q = absurd (cc)
      gone (Some x) e q = refl
  row_by k c false e at =
      let before : numbered b.calls k ≡ Some c = sym (is.calls k e) ∙ at in
      let own : numbered b.calls c.number ≡ Some c = own_there c k before in
      row_same b v c (is.apart c own (other_call c k before e)) own (base.marks c own (other_call c k before e)) ∙ passes_not (is_over_by_row b) b.calls k c base.row before

  pub row_still : list_any (is_over_by_row v) v.calls ≡ false
  row_still = none_from (is_over_by_row v) v.calls (λ k c at. row_by k c (k == n) refl at)

  -- the call of an attempt that is of another
  pub record HasOther (x : Attempt) : Type 0 where
    pub call : Call
    pub before : numbered b.calls x.row.call ≡ Some call
    pub own : numbered b.calls call.number ≡ Some call
    pub off : (call.number == n) ≡ false
    pub mine : is_of call x ≡ true
    pub now_ : numbered v.calls x.row.call ≡ Some call

  other_by : (x : Attempt) (o : Option Call) → numbered b.calls x.row.call ≡ o → is_some o ≡ true → (x.row.call == n) ≡ false → HasOther x
  other_by x None e some off = absurd (cc)
  other_by x (Some d) e some off = record {
    call = d;
    before = e;
    own = own_there d x.row.call e;
    off = other_call d x.row.call e off;
    mine = eq-eqb x.row.call d.number (sym (base.numbers x.row.call d e));
    now_ = is.calls x.row.call off ∙ e;
  }

  pub has_other : (p : ℕ) (x : Attempt) → numbered v.attempts p ≡ Some x → (x.row.call == n) ≡ false → HasOther x
  has_other p x at off = other_by x (numbered b.calls x.row.call) refl (base.owned p x (is.rows p x at off)) off

  final_by : (p : ℕ) (x : Attempt) (q : Bool) → (x.row.call == n) ≡ q → numbered v.attempts p ≡ Some x → is_final_end v x ≡ false
  final_by p x true e at =
      ap (λ (k : ℕ). holds (is_final_in x v) (numbered v.calls k)) (eqb-true x.row.call n e) ∙ ap (holds (is_final_in x v)) is.done.there
      ∙ gone is.done.call.end is.done.ended _ _ _
    where
      gone : {X : Type 0} (o : Option X) → is_some o ≡ true → (q r t : Bool) → (((is_none o && q) && r) && t) ≡ false
      gone None e q r t = absurd (cc)
      gone (Some x) e q r t = refl
  final_by p x false e at =
      let h : HasOther x = has_other p x at e in
      ap (holds (is_final_in x v)) h.now_ ∙ final_in_same b v h.call (is.apart h.call h.own h.off) h.own (base.marks h.call h.own h.off) x h.mine
      ∙ sym (ap (holds (is_final_in x b)) h.before) ∙ passes_not (is_final_end b) b.attempts p x base.final (is.rows p x at e)

  pub final_still : list_any (is_final_end v) v.attempts ≡ false
  final_still = none_from (is_final_end v) v.attempts (λ p x at. final_by p x (x.row.call == n) refl at)

  -- no attempt of another call is to be followed, or cut off
  pub unfollowed : (p : ℕ) (x : Attempt) → numbered v.attempts p ≡ Some x → (x.row.call == n) ≡ false → wants_follower x v ≡ false
  unfollowed p x at off =
      let h : HasOther x = has_other p x at off in
      holds_at (wants_follower_by x v) (wants_follower_by x b) x.row.ended (λ e here. wants_same b v h.call (is.apart h.call h.own h.off) h.own x h.mine e)
      ∙ passes_not (λ (y : Attempt). wants_follower y b) b.attempts p x base.followed (is.rows p x at off)

  pub uncut : (p : ℕ) (x : Attempt) → numbered v.attempts p ≡ Some x → (x.row.call == n) ≡ false → is_to_cut v x ≡ false
  uncut p x at off =
      let h : HasOther x = has_other p x at off in
      ap (λ (q : Bool). is_outstanding x && q) (over_same b v h.call (is.apart h.call h.own h.off) h.own x h.mine)
      ∙ base.cut p x (is.rows p x at off) off
