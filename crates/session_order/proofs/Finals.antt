-- Where something is posted to calls that leaves alone which ends count and which attempts are over, it is as final as before which end is so.
use Rattle.std.proofs.Common.{◌≡◌, ◌-◌, ◌∷◌, ◌||◌, ◌&&◌, not, nat_le, ap, refl, ◌∙◌, Bool, List, [], Option, None, Some, ℕ, cond, filter, if◌then◌else◌, is_none, is_some, max, slice_get, suc, zero}
use Rattle.std.specs.Option.{option_map_or}
use Rattle.std.specs.Prelude.{filter_map, fold}
use Rattle.attempt_ledger.specs.Ends.{delay_of}
use Rattle.attempt_ledger.specs.Throttling.{codes_of}
use Rattle.attempt_ledger.specs.declared.row.RowEnd.{RowEnd}
use Rattle.grpc_base.specs.Codes.{has_code}
use Rattle.grpc_base.specs.declared.plan.CallPlan.{CallPlan}
use Rattle.session_actions.specs.Attempts.{counts_by, is_counted, is_of, is_outstanding, is_over, is_queued}
use Rattle.session_actions.specs.Commitments.{is_final_in, is_free_call}
use Rattle.session_actions.specs.Configs.{plan_of}
use Rattle.session_actions.specs.DueAttempts.{attempts_made, counted_row, due_after_end, due_after_mark, due_by, due_by_plan, has_going, is_final, is_final_by, is_licensed, last_counted, last_delayed, next_due, no_due, retry_due, was_delayed}
use Rattle.session_actions.specs.Words.{holds, is_number, last_of, numbered}
use Rattle.session_actions.specs.declared.attempt.Attempt.{Attempt}
use Rattle.session_actions.specs.declared.call.Call.{Call}
use Rattle.session_actions.specs.declared.call.Mark.{Mark}
use Rattle.session_actions.specs.declared.call.MarkKind.{MarkKind}
use Rattle.session_actions.specs.declared.due.DueState.{DueState}
use Rattle.session_actions.specs.declared.seen.Seen.{Seen}
use Rattle.session_order.proofs.Lists.{any_same, holds_same}
use Rattle.session_actions.specs.declared.call.MarkKind.TheVariants as mark
use Rattle.grpc_base.specs.declared.plan.CallPlan.TheVariants as plan

or_same : {X Y : Type 0} (g h : X → Y) (d : Y) → ((x : X) → g x ≡ h x) → (o : Option X) → option_map_or g o d ≡ option_map_or h o d
or_same g h d same None = refl
or_same g h d same (Some x) = same x

-- of the attempts of a session
or_in : {Y : Type 0} (g h : Attempt → Y) (d : Y) (o : Option Attempt) → ((x : Attempt) → o ≡ Some x → g x ≡ h x) → option_map_or g o d ≡ option_map_or h o d
or_in g h d None same = refl
or_in g h d (Some x) same = same x refl

pub holds_in : (p q : Attempt → Bool) (o : Option Attempt) → ((x : Attempt) → o ≡ Some x → p x ≡ q x) → holds p o ≡ holds q o
holds_in p q None same = refl
holds_in p q (Some x) same = same x refl

filter_same : (p q : Attempt → Bool) (xs : List Attempt) → ((i : ℕ) (x : Attempt) → slice_get xs i ≡ Some x → p x ≡ q x) → filter p xs ≡ filter q xs
filter_same p q [] same = refl
filter_same p q (x ∷ xs) same =
    ap (λ (b : Bool). cond b (x ∷ filter p xs) (filter p xs)) (same zero x refl)
    ∙ ap (λ (l : List Attempt). cond (q x) (x ∷ l) l) (filter_same p q xs (λ i y e. same (suc i) y e))

rows_by : (m : Mark) (g h : Mark → Option ℕ) (marks : List Mark) (o : Option ℕ) → g m ≡ o → h m ≡ o → filter_map g marks ≡ filter_map h marks
    → filter_map g (m ∷ marks) ≡ filter_map h (m ∷ marks)
rows_by m g h marks None e f rest = (cc)
rows_by m g h marks (Some row) e f rest = (cc)

rows_same : (g h : Mark → Option ℕ) → ((m : Mark) → g m ≡ h m) → (marks : List Mark) → filter_map g marks ≡ filter_map h marks
rows_same g h same [] = refl
rows_same g h same (m ∷ marks) = rows_by m g h marks (h m) (same m) refl (rows_same g h same marks)

-- another session with the same attempts, configs and runs, where something was posted to calls
module _ (s u : Seen) (cs : List Call) (messages : Call → List (List ℕ)) (finished : Call → Bool) (taken : Call → ℕ) (end_taken : Call → Bool)
    (counts : (k : ℕ) (a : Attempt) → numbered s.attempts k ≡ Some a → (e : RowEnd) → counts_by a (record u { calls = cs; attempts = s.attempts; configs = s.configs; runs = s.runs }) e ≡ counts_by a s e) where
  abbrev t : Seen
  t = record u { calls = cs; attempts = s.attempts; configs = s.configs; runs = s.runs }

  abbrev d : Call → Call
  d c = record c { messages = messages c; finished = finished c; taken = taken c; end_taken = end_taken c }

  counted_same : (k : ℕ) (a : Attempt) → numbered s.attempts k ≡ Some a → is_counted a t ≡ is_counted a s
  counted_same k a here = holds_same (counts_by a t) (counts_by a s) (counts k a here) a.row.ended

  delayed_one : (c : Call) (k i : ℕ) (a : Attempt) → slice_get s.attempts i ≡ Some a → was_delayed (d c) k t a ≡ was_delayed c k s a
  delayed_one c k i a here =
      ap (λ (x : Bool). ((is_of c a && nat_le a.row.number k) && x) && holds (λ (x : RowEnd). is_some (delay_of x.pushback)) a.row.ended) (counted_same (suc i) a here)

  delayed_same : (c : Call) (k : ℕ) → last_delayed (d c) k t ≡ last_delayed c k s
  delayed_same c k =
      ap (fold (λ (j : ℕ) (a : Attempt). max j a.row.number) 0) (filter_same (was_delayed (d c) k t) (was_delayed c k s) s.attempts (delayed_one c k))

  plan_same : (c : Call) (a : Attempt) (w : DueState) (e : RowEnd) (p : CallPlan) → due_by_plan p (d c) a t w e ≡ due_by_plan p c a s w e
  plan_same c a w e plan.None = refl
  plan_same c a w e (plan.Retry p) =
      ap (λ (k : ℕ). record w { forced = (if is_licensed c a.row.number e.code e.pushback e.tokens s then Some (retry_due p (a.row.number - k) e) else None) })
      (delayed_same c a.row.number)
  plan_same c a w e (plan.Hedge p) = refl

  end_same : (c : Call) (w : DueState) (k : ℕ) (a : Attempt) → numbered s.attempts k ≡ Some a → (e : RowEnd) → due_after_end (d c) t w a e ≡ due_after_end c s w a e
  end_same c w k a here e =
      ap (λ (x : Bool). if (not w.stopped && x) && has_code (codes_of (plan_of c s)) e.code then due_by_plan (plan_of c s) (d c) a t w e else w) (counts k a here e)
      ∙ ap (λ (y : DueState). if (not w.stopped && counts_by a s e) && has_code (codes_of (plan_of c s)) e.code then y else w) (plan_same c a w e (plan_of c s))

  mark_same : (c : Call) (m : MarkKind) (moment : ℕ) (w : DueState) → due_after_mark (d c) t m moment w ≡ due_after_mark c s m moment w
  mark_same c mark.Configured moment w = refl
  mark_same c (mark.Made row) moment w = refl
  mark_same c (mark.Placed row) moment w = refl
  mark_same c (mark.Ended row) moment w =
      or_in (λ (a : Attempt). option_map_or (due_after_end (d c) t w a) a.row.ended w) (λ (a : Attempt). option_map_or (due_after_end c s w a) a.row.ended w) w
      (numbered s.attempts row) (λ a here. or_same (due_after_end (d c) t w a) (due_after_end c s w a) w (end_same c w row a here) a.row.ended)
  mark_same c mark.Withheld moment w = refl
  mark_same c mark.Committed moment w = refl
  mark_same c mark.Closed moment w = refl

  due_same : (c : Call) (w : DueState) (list : List Mark)
      → fold (λ (x : DueState) (m : Mark). due_after_mark (d c) t m.what m.moment x) w list ≡ fold (λ (x : DueState) (m : Mark). due_after_mark c s m.what m.moment x) w list
  due_same c w [] = refl
  due_same c w (m ∷ list) =
      ap (λ (z : DueState). fold (λ (x : DueState) (m : Mark). due_after_mark (d c) t m.what m.moment x) z list) (mark_same c m.what m.moment w)
      ∙ due_same c (due_after_mark c s m.what m.moment w) list

  pub next_same : (c : Call) → next_due (d c) t ≡ next_due c s
  next_same c = ap (due_by (plan_of c s) (attempts_made c s)) (due_same c no_due c.marks)

  row_same : (w : MarkKind) → counted_row t w ≡ counted_row s w
  row_same mark.Configured = refl
  row_same (mark.Made row) = refl
  row_same (mark.Placed row) = refl
  row_same (mark.Ended row) =
      ap (λ (x : Bool). if x then Some row else None)
      (holds_in (λ (a : Attempt). is_counted a t) (λ (a : Attempt). is_counted a s) (numbered s.attempts row) (counted_same row))
  row_same mark.Withheld = refl
  row_same mark.Committed = refl
  row_same mark.Closed = refl

  last_same : (c : Call) → last_counted (d c) t ≡ last_counted c s
  last_same c = ap last_of (rows_same (λ (m : Mark). counted_row t m.what) (λ (m : Mark). counted_row s m.what) (λ m. row_same m.what) c.marks)

  final_by : (p : CallPlan) (c : Call) → has_going (d c) t ≡ has_going c s → (a : Attempt) (e : RowEnd) → is_final_by p (d c) a t e ≡ is_final_by p c a s e
  final_by plan.None c going a e = refl
  final_by (plan.Retry p) c going a e = refl
  final_by (plan.Hedge p) c going a e =
      ap (λ (o : Option ℕ). not (has_code p.codes e.code) || (is_number a.place o && is_none (next_due (d c) t) && not (has_going (d c) t))) (last_same c)
      ∙ ap (λ (o : Option ℕ). not (has_code p.codes e.code) || (is_number a.place (last_counted c s) && is_none o && not (has_going (d c) t))) (next_same c)
      ∙ ap (λ (b : Bool). not (has_code p.codes e.code) || (is_number a.place (last_counted c s) && is_none (next_due c s) && not b)) going

  pub final_same : (c : Call) → has_going (d c) t ≡ has_going c s → (k : ℕ) (a : Attempt) → numbered s.attempts k ≡ Some a → is_final_in a t (d c) ≡ is_final_in a s c
  final_same c going k a here =
      ap (λ (b : Bool). is_free_call s c && b && is_final (d c) a t) (counted_same k a here)
      ∙ ap (λ (b : Bool). is_free_call s c && is_counted a s && b)
      (holds_same (is_final_by (plan_of c s) (d c) a t) (is_final_by (plan_of c s) c a s) (final_by (plan_of c s) c going a) a.row.ended)
