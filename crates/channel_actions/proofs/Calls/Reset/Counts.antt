-- Once it is noted of an attempt that its stream was reset: which attempts are over, followed and counted, and when the next one is due.
use Rattle.std.proofs.Common.{◌≡◌, ◌+◌, ◌-◌, ◌==◌, ◌∷◌, ◌||◌, ◌&&◌, not, nat_le, ap, refl, ◌∙◌, Bool, List, [], Option, None, Some, ℕ, cond, filter, fold, if◌then◌else◌, is_none, is_some, max}
use Rattle.std.specs.Option.{option_map_or}
use Rattle.std.specs.Prelude.{filter_map}
use Rattle.attempt_ledger.specs.Ends.{delay_of, is_cut}
use Rattle.attempt_ledger.specs.Numbering.{is_transparent}
use Rattle.attempt_ledger.specs.Throttling.{codes_of}
use Rattle.attempt_ledger.specs.TransparentRows.{is_by_peer, is_unsent}
use Rattle.attempt_ledger.specs.declared.row.RowCause.{RowCause}
use Rattle.attempt_ledger.specs.declared.row.RowEnd.{RowEnd}
use Rattle.grpc_base.specs.Codes.{has_code}
use Rattle.grpc_base.specs.declared.plan.CallPlan.{CallPlan}
use Rattle.grpc_base.specs.declared.plan.CallPlan.TheVariants as plan
use Rattle.channel_actions.proofs.Calls.Reset.Alike.{alike_changed, alike_filter, alike_fold, filter_same, fold_same}
use Rattle.session_actions.specs.AttemptEnds.{with_reset_queued}
use Rattle.session_actions.specs.Attempts.{commitment, counts_by, is_commitment, is_counted, is_followed, is_later_of, is_of, is_over, is_over_in, is_to_follow, wants_follower_by, was_refused, was_retried_so}
use Rattle.session_actions.specs.Configs.{plan_of}
use Rattle.session_actions.specs.DueAttempts.{attempts_made, counted_row, due_after_end, due_after_making, due_after_mark, due_by, due_by_plan, due_state, is_licensed, last_counted, last_delayed, next_due, no_due, retry_due, was_delayed}
use Rattle.session_actions.specs.Words.{changed, holds, last_of, numbered}
use Rattle.session_actions.specs.declared.attempt.Attempt.{Attempt}
use Rattle.session_actions.specs.declared.call.Call.{Call}
use Rattle.session_actions.specs.declared.call.Mark.{Mark}
use Rattle.session_actions.specs.declared.call.MarkKind.{MarkKind}
use Rattle.session_actions.specs.declared.call.MarkKind.TheVariants as mark
use Rattle.session_actions.specs.declared.due.DueState.{DueState}
use Rattle.session_actions.specs.declared.seen.Seen.{Seen}
use Rattle.session_order.proofs.Changed.{any_changed, lookup}
use Rattle.session_order.proofs.Lasts.{last_changed, read_before}
use Rattle.session_order.proofs.Lists.{any_same, holds_same}

or_same : {X Y : Type 0} (g h : X → Y) (d : Y) → ((x : X) → g x ≡ h x) → (o : Option X) → option_map_or g o d ≡ option_map_or h o d
or_same g h d same None = refl
or_same g h d same (Some x) = same x

rows_by : (m : Mark) (g h : Mark → Option ℕ) (marks : List Mark) (o : Option ℕ) → g m ≡ o → h m ≡ o → filter_map g marks ≡ filter_map h marks
    → filter_map g (m ∷ marks) ≡ filter_map h (m ∷ marks)
rows_by m g h marks None e f rest = (cc)
rows_by m g h marks (Some row) e f rest = (cc)

rows_same : (g h : Mark → Option ℕ) → ((m : Mark) → g m ≡ h m) → (marks : List Mark) → filter_map g marks ≡ filter_map h marks
rows_same g h same [] = refl
rows_same g h same (m ∷ marks) = rows_by m g h marks (h m) (same m) refl (rows_same g h same marks)

module _ (s : Seen) (n : ℕ) where
  abbrev pub put : Attempt → Attempt
  put a = with_reset_queued a

  abbrev pub t : Seen
  t = record s { attempts = changed put n s.attempts }

  -- of the attempt to which a call is committed
  pub of_commitment : {Y : Type 0} (h : Option Attempt → Y) → ((k : Attempt) → h (Some (put k)) ≡ h (Some k)) → (c : Call) → h (commitment c t) ≡ h (commitment c s)
  of_commitment h same c = read_before put h same (commitment c s) (commitment c t) (last_changed (is_commitment c) put (λ k. refl) n s.attempts)

  over_in : (c : Call) (a : Attempt) → is_over_in c a t ≡ is_over_in c a s
  over_in c a = ap (λ (b : Bool). is_some c.end || b) (of_commitment (holds (λ (k : Attempt). not (k.row.number == a.row.number))) (λ k. refl) c)

  pub over_same : (a : Attempt) → is_over a t ≡ is_over a s
  over_same a = holds_same (λ (c : Call). is_over_in c a t) (λ (c : Call). is_over_in c a s) (λ c. over_in c a) (numbered s.calls a.row.call)

  pub none_same : (c : Call) → is_none (commitment c t) ≡ is_none (commitment c s)
  none_same c = of_commitment is_none (λ k. refl) c

  pub followed_same : (a : Attempt) → is_followed a t ≡ is_followed a s
  followed_same a = any_changed (is_later_of a) put (λ q. refl) n s.attempts

  pub retried_same : (c : Call) → was_retried_so c t ≡ was_retried_so c s
  retried_same c =
      any_changed (λ (q : Attempt). is_of c q && was_refused q && is_followed q t) put (λ q. refl) n s.attempts
      ∙ any_same (λ (q : Attempt). is_of c q && was_refused q && is_followed q t) (λ (q : Attempt). is_of c q && was_refused q && is_followed q s)
      (λ q. ap (λ (b : Bool). is_of c q && was_refused q && b) (followed_same q)) s.attempts

  follow_same : (c : Call) (why : RowCause) (unseen : Bool) → is_to_follow c why unseen t ≡ is_to_follow c why unseen s
  follow_same c why unseen =
      ap (λ (b : Bool). is_unsent why || (unseen && is_by_peer why && b && not (was_retried_so c t))) (none_same c)
      ∙ ap (λ (b : Bool). is_unsent why || (unseen && is_by_peer why && is_none (commitment c s) && not b)) (retried_same c)

  wants_same : (a : Attempt) (e : RowEnd) → wants_follower_by a t e ≡ wants_follower_by a s e
  wants_same a e =
      ap (λ (b : Bool). not b && holds (λ (c : Call). is_to_follow c e.cause e.unseen t) (numbered s.calls a.row.call)) (followed_same a)
      ∙ ap (λ (b : Bool). not (is_followed a s) && b)
      (holds_same (λ (c : Call). is_to_follow c e.cause e.unseen t) (λ (c : Call). is_to_follow c e.cause e.unseen s) (λ c. follow_same c e.cause e.unseen)
      (numbered s.calls a.row.call))

  counts_same : (a : Attempt) (e : RowEnd) → counts_by a t e ≡ counts_by a s e
  counts_same a e =
      ap (λ (b : Bool). (not (is_cut e.cause) && not b) && not (wants_follower_by a t e)) (followed_same a)
      ∙ ap (λ (b : Bool). (not (is_cut e.cause) && not (is_followed a s)) && not b) (wants_same a e)

  counted_same : (a : Attempt) → is_counted a t ≡ is_counted a s
  counted_same a = holds_same (counts_by a t) (counts_by a s) (counts_same a) a.row.ended

  -- how many were made; which delay was asked for last; which end counted last
  pub made_same : (c : Call) → attempts_made c t ≡ attempts_made c s
  made_same c =
      alike_fold put (λ (k : ℕ) (a : Attempt). k + cond (is_of c a && not (is_transparent a.row.kind)) 1 0) (λ k a. refl) 0 s.attempts (changed put n s.attempts)
      (alike_changed put n s.attempts)

  delayed_one : (c : Call) (k : ℕ) (a : Attempt) → was_delayed c k t a ≡ was_delayed c k s a
  delayed_one c k a =
      ap (λ (b : Bool). ((is_of c a && nat_le a.row.number k) && b) && holds (λ (e : RowEnd). is_some (delay_of e.pushback)) a.row.ended) (counted_same a)

  pub delayed_same : (c : Call) (k : ℕ) → last_delayed c k t ≡ last_delayed c k s
  delayed_same c k =
      alike_fold put (λ (j : ℕ) (a : Attempt). max j a.row.number) (λ j a. refl) 0 (filter (was_delayed c k t) s.attempts) (filter (was_delayed c k t) (changed put n s.attempts))
      (alike_filter put (was_delayed c k t) (λ a. refl) s.attempts (changed put n s.attempts) (alike_changed put n s.attempts))
      ∙ ap (fold (λ (j : ℕ) (a : Attempt). max j a.row.number) 0) (filter_same (was_delayed c k t) (was_delayed c k s) (delayed_one c k) s.attempts)

  row_same : (w : MarkKind) → counted_row t w ≡ counted_row s w
  row_same mark.Configured = refl
  row_same (mark.Made row) = refl
  row_same (mark.Placed row) = refl
  row_same (mark.Ended row) =
      ap (λ (b : Bool). if b then Some row else None)
      (lookup (holds (λ (a : Attempt). is_counted a t)) put (λ a. refl) n s.attempts row
      ∙ holds_same (λ (a : Attempt). is_counted a t) (λ (a : Attempt). is_counted a s) counted_same (numbered s.attempts row))
  row_same mark.Withheld = refl
  row_same mark.Committed = refl
  row_same mark.Closed = refl

  pub last_same : (c : Call) → last_counted c t ≡ last_counted c s
  last_same c = ap last_of (rows_same (λ (m : Mark). counted_row t m.what) (λ (m : Mark). counted_row s m.what) (λ m. row_same m.what) c.marks)

  -- when the next attempt is due
  plan_same : (c : Call) (a : Attempt) (w : DueState) (e : RowEnd) (p : CallPlan) → due_by_plan p c a t w e ≡ due_by_plan p c a s w e
  plan_same c a w e plan.None = refl
  plan_same c a w e (plan.Retry p) =
      ap (λ (k : ℕ). record w { forced = (if is_licensed c a.row.number e.code e.pushback e.tokens s then Some (retry_due p (a.row.number - k) e) else None) })
      (delayed_same c a.row.number)
  plan_same c a w e (plan.Hedge p) = refl

  end_same : (c : Call) (w : DueState) (a : Attempt) (e : RowEnd) → due_after_end c t w a e ≡ due_after_end c s w a e
  end_same c w a e =
      ap (λ (x : Bool). if (not w.stopped && x) && has_code (codes_of (plan_of c s)) e.code then due_by_plan (plan_of c s) c a t w e else w) (counts_same a e)
      ∙ ap (λ (y : DueState). if (not w.stopped && counts_by a s e) && has_code (codes_of (plan_of c s)) e.code then y else w) (plan_same c a w e (plan_of c s))

  -- it is not seen in an end
  plan_put : (c : Call) (a : Attempt) (w : DueState) (e : RowEnd) (p : CallPlan) → due_by_plan p c (put a) t w e ≡ due_by_plan p c a t w e
  plan_put c a w e plan.None = refl
  plan_put c a w e (plan.Retry p) = refl
  plan_put c a w e (plan.Hedge p) = refl

  end_put : (c : Call) (w : DueState) (a : Attempt) (e : RowEnd) → due_after_end c t w (put a) e ≡ due_after_end c t w a e
  end_put c w a e =
      ap (λ (y : DueState). if (not w.stopped && counts_by a t e) && has_code (codes_of (plan_of c t)) e.code then y else w) (plan_put c a w e (plan_of c t))

  mark_same : (c : Call) (m : MarkKind) (moment : ℕ) (w : DueState) → due_after_mark c t m moment w ≡ due_after_mark c s m moment w
  mark_same c mark.Configured moment w = refl
  mark_same c (mark.Made row) moment w = lookup (λ (o : Option Attempt). option_map_or (due_after_making w) o w) put (λ a. refl) n s.attempts row
  mark_same c (mark.Placed row) moment w = refl
  mark_same c (mark.Ended row) moment w =
      lookup (λ (o : Option Attempt). option_map_or (λ (a : Attempt). option_map_or (due_after_end c t w a) a.row.ended w) o w) put
      (λ a. or_same (due_after_end c t w (put a)) (due_after_end c t w a) w (end_put c w a) a.row.ended) n s.attempts row
      ∙ or_same (λ (a : Attempt). option_map_or (due_after_end c t w a) a.row.ended w) (λ (a : Attempt). option_map_or (due_after_end c s w a) a.row.ended w) w
      (λ a. or_same (due_after_end c t w a) (due_after_end c s w a) w (end_same c w a) a.row.ended) (numbered s.attempts row)
  mark_same c mark.Withheld moment w = refl
  mark_same c mark.Committed moment w = refl
  mark_same c mark.Closed moment w = refl

  pub due_same : (c : Call) → due_state c t ≡ due_state c s
  due_same c =
      fold_same (λ (x : DueState) (m : Mark). due_after_mark c t m.what m.moment x) (λ (x : DueState) (m : Mark). due_after_mark c s m.what m.moment x)
      (λ w m. mark_same c m.what m.moment w) no_due c.marks

  pub next_same : (c : Call) → next_due c t ≡ next_due c s
  next_same c =
      ap (λ (k : ℕ). due_by (plan_of c s) k (due_state c t)) (made_same c) ∙ ap (due_by (plan_of c s) (attempts_made c s)) (due_same c)
