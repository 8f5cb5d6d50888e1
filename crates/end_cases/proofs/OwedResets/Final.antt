-- RST_STREAM that is queued leaves the line of final ends as it is: no end looks at what was reset.
use Rattle.std.proofs.Common.{◌≡◌, ◌∷◌, ◌||◌, ◌&&◌, not, ap, refl, ◌∙◌, Bool, false, [], Option, ℕ, is_none}
use Rattle.std.specs.List.{list_any}
use Rattle.attempt_ledger.specs.Ends.{is_cut}
use Rattle.attempt_ledger.specs.TransparentRows.{is_by_peer, is_unsent}
use Rattle.attempt_ledger.specs.declared.row.RowCause.{RowCause}
use Rattle.attempt_ledger.specs.declared.row.RowEnd.{RowEnd}
use Rattle.channel_actions.proofs.Calls.Reset.Counts.{followed_same, last_same, next_same, none_same, over_same, put, retried_same, t}
use Rattle.grpc_base.specs.Codes.{has_code}
use Rattle.grpc_base.specs.declared.plan.CallPlan.{CallPlan}
use Rattle.grpc_base.specs.declared.plan.CallPlan.TheVariants as plan
use Rattle.h2_frame.specs.Sent.{rst_stream_frame}
use Rattle.session_actions.specs.AttemptEnds.{stream_reset_of}
use Rattle.session_actions.specs.Attempts.{commitment, counts_by, is_counted, is_followed, is_of, is_outstanding, is_queued, is_to_follow, wants_follower_by, was_retried_so}
use Rattle.session_actions.specs.Commitments.{is_final_end, is_final_in, is_free_call}
use Rattle.session_actions.specs.Configs.{plan_of}
use Rattle.session_actions.specs.DueAttempts.{has_going, is_final, is_final_by, last_counted, next_due}
use Rattle.session_actions.specs.Links.{link_number, stream_number}
use Rattle.session_actions.specs.Words.{holds, is_number, numbered}
use Rattle.session_actions.specs.declared.attempt.Attempt.{Attempt}
use Rattle.session_actions.specs.declared.call.Call.{Call}
use Rattle.session_actions.specs.declared.entry.OpenEntry.{OpenEntry}
use Rattle.session_actions.specs.declared.seen.Seen.{Seen}
use Rattle.session_order.proofs.Changed.{any_changed}
use Rattle.session_order.proofs.Lists.{any_same, holds_same}
use Rattle.session_order.proofs.Wires.{owed_still}
use Rattle.session_order.specs.Quiescent.{IsStill}
use Rattle.session_order.specs.declared.line.Line.TheVariants as line

module _ (s : Seen) (n : ℕ) where
  abbrev v : Seen
  v = t s n

  free_same : (c : Call) → is_free_call v c ≡ is_free_call s c
  free_same c = ap (λ (b : Bool). is_none c.end && b) (none_same s n c)

  follow_same : (c : Call) (why : RowCause) (unseen : Bool) → is_to_follow c why unseen v ≡ is_to_follow c why unseen s
  follow_same c why unseen =
      ap (λ (b : Bool). is_unsent why || (unseen && is_by_peer why && b && not (was_retried_so c v))) (none_same s n c)
      ∙ ap (λ (b : Bool). is_unsent why || (unseen && is_by_peer why && is_none (commitment c s) && not b)) (retried_same s n c)

  wants_same : (a : Attempt) (e : RowEnd) → wants_follower_by a v e ≡ wants_follower_by a s e
  wants_same a e =
      ap (λ (b : Bool). not b && holds (λ (c : Call). is_to_follow c e.cause e.unseen v) (numbered s.calls a.row.call)) (followed_same s n a)
      ∙ ap (λ (b : Bool). not (is_followed a s) && b)
      (holds_same (λ (c : Call). is_to_follow c e.cause e.unseen v) (λ (c : Call). is_to_follow c e.cause e.unseen s) (λ c. follow_same c e.cause e.unseen)
      (numbered s.calls a.row.call))

  counts_same : (a : Attempt) (e : RowEnd) → counts_by a v e ≡ counts_by a s e
  counts_same a e =
      ap (λ (b : Bool). (not (is_cut e.cause) && not b) && not (wants_follower_by a v e)) (followed_same s n a)
      ∙ ap (λ (b : Bool). (not (is_cut e.cause) && not (is_followed a s)) && not b) (wants_same a e)

  counted_same : (a : Attempt) → is_counted a v ≡ is_counted a s
  counted_same a = holds_same (counts_by a v) (counts_by a s) (counts_same a) a.row.ended

  going_one : (c : Call) (a : Attempt) → (is_of c a && (is_outstanding a || is_queued a v)) ≡ (is_of c a && (is_outstanding a || is_queued a s))
  going_one c a = ap (λ (b : Bool). is_of c a && (is_outstanding a || ((is_none a.row.placed && is_none a.row.ended) && not b))) (over_same s n a)

  going_same : (c : Call) → has_going c v ≡ has_going c s
  going_same c =
      any_changed (λ (a : Attempt). is_of c a && (is_outstanding a || is_queued a v)) (put s n) (λ a. refl) n s.attempts
      ∙ any_same (λ (a : Attempt). is_of c a && (is_outstanding a || is_queued a v)) (λ (a : Attempt). is_of c a && (is_outstanding a || is_queued a s)) (going_one c) s.attempts

  final_by : (p : CallPlan) (c : Call) (a : Attempt) (e : RowEnd) → is_final_by p c a v e ≡ is_final_by p c a s e
  final_by plan.None c a e = refl
  final_by (plan.Retry p) c a e = refl
  final_by (plan.Hedge p) c a e =
      ap (λ (o : Option ℕ). not (has_code p.codes e.code) || (is_number a.place o && is_none (next_due c v) && not (has_going c v))) (last_same s n c)
      ∙ ap (λ (o : Option ℕ). not (has_code p.codes e.code) || (is_number a.place (last_counted c s) && is_none o && not (has_going c v))) (next_same s n c)
      ∙ ap (λ (b : Bool). not (has_code p.codes e.code) || (is_number a.place (last_counted c s) && is_none (next_due c s) && not b)) (going_same c)

  in_same : (a : Attempt) (c : Call) → is_final_in a v c ≡ is_final_in a s c
  in_same a c =
      ap (λ (b : Bool). b && is_counted a v && is_final c a v) (free_same c)
      ∙ ap (λ (b : Bool). is_free_call s c && b && is_final c a v) (counted_same a)
      ∙ ap (λ (b : Bool). is_free_call s c && is_counted a s && b)
      (holds_same (is_final_by (plan_of c s) c a v) (is_final_by (plan_of c s) c a s) (final_by (plan_of c s) c a) a.row.ended)

  end_same : (a : Attempt) → is_final_end v a ≡ is_final_end s a
  end_same a = holds_same (λ (c : Call). is_final_in a v c) (λ (c : Call). is_final_in a s c) (in_same a) (numbered s.calls a.row.call)

  -- it is not seen in the attempt either
  put_by : (p : CallPlan) (c : Call) (a : Attempt) (e : RowEnd) → is_final_by p c (put s n a) v e ≡ is_final_by p c a v e
  put_by plan.None c a e = refl
  put_by (plan.Retry p) c a e = refl
  put_by (plan.Hedge p) c a e = refl

  put_in : (a : Attempt) (c : Call) → is_final_in (put s n a) v c ≡ is_final_in a v c
  put_in a c =
      ap (λ (b : Bool). is_free_call v c && is_counted a v && b)
      (holds_same (is_final_by (plan_of c s) c (put s n a) v) (is_final_by (plan_of c s) c a v) (put_by (plan_of c s) c a) a.row.ended)

  put_same : (a : Attempt) → is_final_end v (put s n a) ≡ is_final_end v a
  put_same a = holds_same (λ (c : Call). is_final_in (put s n a) v c) (λ (c : Call). is_final_in a v c) (put_in a) (numbered s.calls a.row.call)

  pub final_noted : list_any (is_final_end s) s.attempts ≡ false → list_any (is_final_end v) v.attempts ≡ false
  final_noted h = any_changed (is_final_end v) (put s n) put_same n s.attempts ∙ any_same (is_final_end v) (is_final_end s) end_same s.attempts ∙ h

pub final_reset : (s : Seen) (a : Attempt) (number : ℕ) (o : OpenEntry) → IsStill line.Final o s → IsStill line.Final o (stream_reset_of number s a)
final_reset s a number o h = owed_still (rst_stream_frame (stream_number a) number ∷ []) (link_number a) (t s a.place) line.Final o (final_noted s a.place h)
