-- What an application posts to a call or takes of it, and what is marked of it, stirs no line but those that look at it.
use Rattle.std.proofs.Common.{◌≡◌, ◌&&◌, not, ap, refl, ◌∙◌, Bool, List, Option, ℕ, is_none, is_some, None, Some, option_map, sym, ◌==◌, ◌||◌, true, false}
use Rattle.std.proofs.lemmas.Bool.{eqb-false, eqb-true}
use Rattle.std.specs.List.{list_any}
use Rattle.std.specs.Option.{option_map_or}
use Rattle.attempt_ledger.specs.Ends.{is_cut}
use Rattle.attempt_ledger.specs.declared.row.RowEnd.{RowEnd}
use Rattle.grpc_base.specs.Limits.{message_limit}
use Rattle.session_actions.specs.AttemptEnds.{outcome_of}
use Rattle.session_actions.specs.Attempts.{commitment, is_of, is_queued, counts_by, is_counted, is_followed, is_outstanding, is_over, is_over_in, is_to_follow, wants_follower, wants_follower_by}
use Rattle.session_actions.specs.CallEnds.{has_long_request, has_long_response, is_cancelled, is_over_by_row, is_shut_down}
use Rattle.session_actions.specs.Calls.{is_open_call}
use Rattle.session_actions.specs.Commitments.{has_head_in, is_final_end, is_final_in, is_headed, is_inherited, is_inherited_in}
use Rattle.session_actions.specs.Configs.{chosen_of}
use Rattle.session_actions.specs.DueAttempts.{has_going}
use Rattle.session_actions.specs.Responses.{limit_of_attempt}
use Rattle.session_actions.specs.Words.{changed, holds, numbered}
use Rattle.session_actions.specs.declared.attempt.Attempt.{Attempt}
use Rattle.session_actions.specs.declared.call.Call.{Call}
use Rattle.session_actions.specs.declared.call.Mark.{Mark}
use Rattle.session_actions.specs.declared.entry.OpenEntry.{OpenEntry}
use Rattle.session_actions.specs.declared.response.Outcome.{Outcome}
use Rattle.session_actions.specs.declared.seen.Seen.{Seen}
use Rattle.session_order.proofs.Changed.{any_changed, changed_away, changed_map, lookup}
use Rattle.session_order.proofs.Aside.{long_as}
use Rattle.session_order.proofs.Finals.{final_same}
use Rattle.session_order.proofs.Limits.{headed_in, limits_reset, long_response, outcome_same}
use Rattle.session_order.proofs.Lists.{any_in, any_same, holds_same}
use Rattle.session_order.specs.Quiescent.{is_overflowing, is_to_cut, is_to_end, is_to_reset}

-- a call after that
abbrev pub retold : (Call → List (List ℕ)) → (Call → Bool) → (Call → ℕ) → (Call → Bool) → (Call → List Mark) → Call → Call
retold messages finished taken end_taken marks c =
    record c { messages = messages c; finished = finished c; taken = taken c; end_taken = end_taken c; marks = marks c }

module _ (s : Seen) (n : ℕ) (messages : Call → List (List ℕ)) (finished : Call → Bool) (taken : Call → ℕ) (end_taken : Call → Bool) (marks : Call → List Mark) where
  abbrev reported : Call → Call
  reported c = retold messages finished taken end_taken marks c

  abbrev t : Seen
  t = record s { calls = changed reported n s.calls }

  over_same : (a : Attempt) → is_over a t ≡ is_over a s
  over_same a = lookup (holds (λ (c : Call). is_over_in c a s)) reported (λ c. refl) n s.calls a.row.call

  wants_same : (a : Attempt) (e : RowEnd) → wants_follower_by a t e ≡ wants_follower_by a s e
  wants_same a e =
      ap (λ (x : Bool). not (is_followed a s) && x)
      (lookup (holds (λ (c : Call). is_to_follow c e.cause e.unseen s)) reported (λ c. refl) n s.calls a.row.call)

  counts_same : (a : Attempt) (e : RowEnd) → counts_by a t e ≡ counts_by a s e
  counts_same a e = ap (λ (x : Bool). (not (is_cut e.cause) && not (is_followed a s)) && not x) (wants_same a e)

  counted_same : (a : Attempt) → is_counted a t ≡ is_counted a s
  counted_same a = holds_same (counts_by a t) (counts_by a s) (counts_same a) a.row.ended

  limit_same : (a : Attempt) → limit_of_attempt a t ≡ limit_of_attempt a s
  limit_same a =
      lookup (λ (o : Option Call). option_map_or (λ (c : Call). (chosen_of c s).response) o message_limit) reported (λ c. refl) n s.calls a.row.call

  pub reported_cut : list_any (is_to_cut t) s.attempts ≡ list_any (is_to_cut s) s.attempts
  reported_cut = any_same (is_to_cut t) (is_to_cut s) (λ a. ap (λ (x : Bool). is_outstanding a && x) (over_same a)) s.attempts

  pub reported_transparent : list_any (λ (a : Attempt). wants_follower a t) s.attempts ≡ list_any (λ (a : Attempt). wants_follower a s) s.attempts
  reported_transparent =
      any_same (λ (a : Attempt). wants_follower a t) (λ (a : Attempt). wants_follower a s)
      (λ a. holds_same (wants_follower_by a t) (wants_follower_by a s) (wants_same a) a.row.ended) s.attempts

  pub reported_inherited : list_any (is_inherited t) s.attempts ≡ list_any (is_inherited s) s.attempts
  reported_inherited =
      any_same (is_inherited t) (is_inherited s)
      (λ a. ap (λ (x : Bool). is_none a.row.committed && x) (lookup (holds (is_inherited_in a s)) reported (λ c. refl) n s.calls a.row.call)) s.attempts

  pub reported_row : list_any (is_over_by_row t) t.calls ≡ list_any (is_over_by_row s) s.calls
  reported_row =
      any_changed (is_over_by_row t) reported (λ c. refl) n s.calls
      ∙ any_same (is_over_by_row t) (is_over_by_row s)
      (λ c. ap (λ (x : Bool). is_open_call c && x)
      (holds_same (λ (k : Attempt). is_counted k t) (λ (k : Attempt). is_counted k s) counted_same (commitment c s))) s.calls

  going_reported : (c : Call) → has_going (record c { messages = messages c; finished = finished c; taken = taken c; end_taken = end_taken c }) t ≡ has_going c s
  going_reported c =
      any_same (λ (a : Attempt). is_of c a && (is_outstanding a || is_queued a t)) (λ (a : Attempt). is_of c a && (is_outstanding a || is_queued a s))
      (λ a. ap (λ (x : Bool). is_of c a && (is_outstanding a || ((is_none a.row.placed && is_none a.row.ended) && not x))) (over_same a)) s.attempts

  going_plain : (c : Call) → has_going c t ≡ has_going c s
  going_plain c =
      any_same (λ (a : Attempt). is_of c a && (is_outstanding a || is_queued a t)) (λ (a : Attempt). is_of c a && (is_outstanding a || is_queued a s))
      (λ a. ap (λ (x : Bool). is_of c a && (is_outstanding a || ((is_none a.row.placed && is_none a.row.ended) && not x))) (over_same a)) s.attempts

  -- a call of which nothing is marked
  final_reported : ((c : Call) → marks c ≡ c.marks) → (k : ℕ) (a : Attempt) → numbered s.attempts k ≡ Some a → (c : Call) → is_final_in a t (reported c) ≡ is_final_in a s c
  final_reported same k a at c =
      ap (λ (list : List Mark). is_final_in a t (record c { messages = messages c; finished = finished c; taken = taken c; end_taken = end_taken c; marks = list }))
      (same c)
      ∙ final_same s s (changed reported n s.calls) messages finished taken end_taken (λ j x is. counts_same x) c (going_reported c) k a at

  final_plain : (k : ℕ) (a : Attempt) → numbered s.attempts k ≡ Some a → (c : Call) → is_final_in a t c ≡ is_final_in a s c
  final_plain k a at c =
      final_same s s (changed reported n s.calls) (λ (x : Call). x.messages) (λ (x : Call). x.finished) (λ (x : Call). x.taken) (λ (x : Call). x.end_taken)
      (λ j x is. counts_same x) c (going_plain c) k a at

  final_by : ((c : Call) → marks c ≡ c.marks) → (k : ℕ) (a : Attempt) → numbered s.attempts k ≡ Some a → (o : Option Call)
      → holds (is_final_in a t) (option_map reported o) ≡ holds (is_final_in a s) o
  final_by same k a at None = refl
  final_by same k a at (Some c) = final_reported same k a at c

  final_at : ((c : Call) → marks c ≡ c.marks) → (i : ℕ) (a : Attempt) → numbered s.attempts i ≡ Some a → (k : ℕ) (b : Bool) → (k == n) ≡ b
      → holds (is_final_in a t) (numbered (changed reported n s.calls) k) ≡ holds (is_final_in a s) (numbered s.calls k)
  final_at same i a at k true e =
      ap (λ (j : ℕ). holds (is_final_in a t) (numbered (changed reported n s.calls) j)) (eqb-true k n e)
      ∙ ap (holds (is_final_in a t)) (changed_map reported n s.calls) ∙ final_by same i a at (numbered s.calls n)
      ∙ ap (λ (j : ℕ). holds (is_final_in a s) (numbered s.calls j)) (sym (eqb-true k n e))
  final_at same i a at k false e =
      ap (holds (is_final_in a t)) (changed_away reported n k s.calls (eqb-false k n e))
      ∙ holds_same (is_final_in a t) (is_final_in a s) (final_plain i a at) (numbered s.calls k)

  pub reported_final : ((c : Call) → marks c ≡ c.marks) → list_any (is_final_end t) s.attempts ≡ list_any (is_final_end s) s.attempts
  reported_final same = any_in (is_final_end t) (is_final_end s) s.attempts (λ i a at. final_at same i a at a.row.call (a.row.call == n) refl)

  pub reported_cancelled : (o : OpenEntry) → list_any (is_cancelled o) t.calls ≡ list_any (is_cancelled o) s.calls
  reported_cancelled o = any_changed (is_cancelled o) reported (λ c. refl) n s.calls

  pub reported_request : (o : OpenEntry) → ((c : Call) → messages c ≡ c.messages) → list_any (has_long_request o t) t.calls ≡ list_any (has_long_request o s) s.calls
  reported_request o same =
      any_changed (has_long_request o t) reported (λ c. long_as o (reported c) c t t refl refl (same c) (λ m. refl)) n s.calls
      ∙ any_same (has_long_request o t) (has_long_request o s) (λ c. long_as o c c t s refl refl refl (λ m. refl)) s.calls

  pub reported_overflow : ((c : Call) → messages c ≡ c.messages) → list_any (is_overflowing t) t.calls ≡ list_any (is_overflowing s) s.calls
  reported_overflow same =
      any_changed (is_overflowing s) reported
      (λ c. ap (λ (list : List (List ℕ)). is_overflowing s (record c { messages = list; finished = finished c; taken = taken c; end_taken = end_taken c; marks = marks c })) (same c))
      n s.calls

  pub reported_head : list_any (is_headed t) s.attempts ≡ list_any (is_headed s) s.attempts
  reported_head =
      any_same (is_headed t) (is_headed s)
      (λ a. ap (λ (x : Bool). is_outstanding a && x)
      (lookup (holds (has_head_in a t)) reported (λ c. refl) n s.calls a.row.call
      ∙ holds_same (has_head_in a t) (has_head_in a s) (headed_in s (changed reported n s.calls) limit_same a) (numbered s.calls a.row.call))) s.attempts

  pub reported_response : list_any (has_long_response t) t.calls ≡ list_any (has_long_response s) s.calls
  reported_response =
      any_changed (has_long_response t) reported (λ c. refl) n s.calls
      ∙ any_same (has_long_response t) (has_long_response s) (long_response s (changed reported n s.calls) limit_same) s.calls

  pub reported_end : list_any (is_to_end t) s.attempts ≡ list_any (is_to_end s) s.attempts
  reported_end =
      any_same (is_to_end t) (is_to_end s)
      (λ a. ap (λ (x : Bool). (is_outstanding a && not x) && is_some (outcome_of a t)) (over_same a)
      ∙ ap (λ (x : Option Outcome). (is_outstanding a && not (is_over a s)) && is_some x) (outcome_same s (changed reported n s.calls) limit_same a)) s.attempts

  pub reported_reset : list_any (is_to_reset t) s.attempts ≡ list_any (is_to_reset s) s.attempts
  reported_reset = limits_reset s (changed reported n s.calls) limit_same

  pub reported_shut : list_any (is_shut_down t) t.calls ≡ list_any (is_shut_down s) s.calls
  reported_shut = any_changed (is_shut_down s) reported (λ c. refl) n s.calls
