-- A call of which nothing changed is as near to its end as before: neither an end of its attempts is final now, nor did its committed attempt end.
use Rattle.std.proofs.Common.{◌≡◌, ◌||◌, ◌&&◌, ◌∷◌, not, ap, refl, sym, ◌∙◌, Bool, true, false, List, [], Option, None, Some, ℕ, if◌then◌else◌, is_none, is_some}
use Rattle.std.proofs.lemmas.Bool.{and_parts}
use Rattle.std.specs.List.{list_all}
use Rattle.std.specs.Option.{option_or}
use Rattle.attempt_ledger.specs.declared.row.RowEnd.{RowEnd}
use Rattle.call_actions.specs.Order.{is_own_mark}
use Rattle.call_actions.proofs.CallsApart.Kept.{commitment_same, counted_same, due_same, last_same, licensed_same, live_one, made_same, plan_same}
use Rattle.call_actions.proofs.CallsApart.Through.{any_apart}
use Rattle.call_actions.specs.CallsApart.Apart.{IsApart}
use Rattle.grpc_base.specs.Codes.{has_code}
use Rattle.grpc_base.specs.declared.plan.CallPlan.{CallPlan}
use Rattle.grpc_base.specs.declared.plan.CallPlan.TheVariants as plan
use Rattle.session_actions.specs.Attempts.{commitment, is_commitment, is_counted, is_of, is_outstanding, is_queued}
use Rattle.session_actions.specs.CallEnds.{is_over_by_row}
use Rattle.session_actions.specs.Calls.{is_open_call}
use Rattle.session_actions.specs.Commitments.{is_final_in, is_free_call}
use Rattle.session_actions.specs.Configs.{plan_of}
use Rattle.session_actions.specs.DueAttempts.{attempts_made, due_by, due_state, has_going, is_final, is_final_by, last_counted, next_due}
use Rattle.session_actions.specs.Words.{find_last, holds, is_number, numbered}
use Rattle.session_actions.specs.declared.attempt.Attempt.{Attempt}
use Rattle.session_actions.specs.declared.call.Call.{Call}
use Rattle.session_actions.specs.declared.call.Mark.{Mark}
use Rattle.session_actions.specs.declared.seen.Seen.{Seen}

-- the last one that passes a test passes it
last_by : {X : Type 0} (test : X → Bool) (x y : X) (o : Option X) (b : Bool) → test x ≡ b → (o ≡ Some y → test y ≡ true) → option_or o (if b then Some x else None) ≡ Some y → test y ≡ true
last_by test x y None true e rest is = let same : x ≡ y = (cc) in sym (ap test same) ∙ e
last_by test x y None false e rest is = absurd (cc)
last_by test x y (Some z) b e rest is = rest is

pub last_passes : {X : Type 0} (test : X → Bool) (xs : List X) (y : X) → find_last test xs ≡ Some y → test y ≡ true
last_passes test [] y is = absurd (cc)
last_passes test (x ∷ xs) y is = last_by test x y (find_last test xs) (test x) refl (last_passes test xs y) is

pub holds_at : {X : Type 0} (p q : X → Bool) (o : Option X) → ((x : X) → o ≡ Some x → p x ≡ q x) → holds p o ≡ holds q o
holds_at p q None same = refl
holds_at p q (Some x) same = same x refl

module _ (s t : Seen) (d : Call) (k : IsApart s t d) (own : numbered s.calls d.number ≡ Some d) (marks : list_all (λ (m : Mark). is_own_mark s d m.what) d.marks ≡ true) where
  next_same : next_due d t ≡ next_due d s
  next_same =
      ap (λ (p : CallPlan). due_by p (attempts_made d t) (due_state d t)) (plan_same s t d k own)
      ∙ ap (λ (n : ℕ). due_by (plan_of d s) n (due_state d t)) (made_same s t d k own)
      ∙ ap (due_by (plan_of d s) (attempts_made d s)) (due_same s t d k own marks)

  going_restricted : (z : Seen) (q : Attempt) → is_of d q ≡ false → (is_of d q && (is_outstanding q || is_queued q z)) ≡ false
  going_restricted z q e = ap (λ (b : Bool). b && (is_outstanding q || is_queued q z)) e

  going_same : has_going d t ≡ has_going d s
  going_same =
      any_apart (is_of d) (λ (q : Attempt). is_of d q && (is_outstanding q || is_queued q t)) (λ (q : Attempt). is_of d q && (is_outstanding q || is_queued q s))
      (going_restricted t) (going_restricted s) (live_one s t d k own) s.attempts t.attempts k.attempts

  free_same : is_free_call t d ≡ is_free_call s d
  free_same = ap (λ (o : Option Attempt). is_none d.end && is_none o) (commitment_same s t d k own)

  final_by_same : (p : CallPlan) (a : Attempt) (e : RowEnd) → is_final_by p d a t e ≡ is_final_by p d a s e
  final_by_same plan.None a e = refl
  final_by_same (plan.Retry p) a e = ap not (licensed_same s t d k own a.row.number e.code e.pushback e.tokens)
  final_by_same (plan.Hedge p) a e =
      ap (λ (o : Option ℕ). not (has_code p.codes e.code) || (is_number a.place o && is_none (next_due d t) && not (has_going d t))) (last_same s t d k own marks)
      ∙ ap (λ (o : Option ℕ). not (has_code p.codes e.code) || (is_number a.place (last_counted d s) && is_none o && not (has_going d t))) next_same
      ∙ ap (λ (b : Bool). not (has_code p.codes e.code) || (is_number a.place (last_counted d s) && is_none (next_due d s) && not b)) going_same

  final_same : (a : Attempt) → is_final d a t ≡ is_final d a s
  final_same a =
      ap (λ (p : CallPlan). holds (is_final_by p d a t) a.row.ended) (plan_same s t d k own)
      ∙ holds_at (is_final_by (plan_of d s) d a t) (is_final_by (plan_of d s) d a s) a.row.ended (λ e is. final_by_same (plan_of d s) a e)

  pub final_in_same : (a : Attempt) → is_of d a ≡ true → is_final_in a t d ≡ is_final_in a s d
  final_in_same a mine =
      ap (λ (b : Bool). (b && is_counted a t) && is_final d a t) free_same
      ∙ ap (λ (b : Bool). (is_free_call s d && b) && is_final d a t) (counted_same s t d k own a mine)
      ∙ ap (λ (b : Bool). (is_free_call s d && is_counted a s) && b) (final_same a)

  pub row_same : is_over_by_row t d ≡ is_over_by_row s d
  row_same =
      ap (λ (o : Option Attempt). is_open_call d && holds (λ (q : Attempt). is_counted q t) o) (commitment_same s t d k own)
      ∙ ap (λ (b : Bool). is_open_call d && b)
      (holds_at (λ (q : Attempt). is_counted q t) (λ (q : Attempt). is_counted q s) (commitment d s)
      (λ q is. counted_same s t d k own q (and_parts (is_of d q) (is_some q.row.committed) (last_passes (is_commitment d) s.attempts q is)).0))
