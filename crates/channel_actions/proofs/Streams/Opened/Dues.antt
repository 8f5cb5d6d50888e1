-- Attempts of which nothing changed but that they have streams: what is due of their calls, and which ends are final, is the same.
use Rattle.std.proofs.Common.{◌≡◌, ◌-◌, ◌∷◌, ◌||◌, ◌&&◌, not, nat_le, ap, refl, ◌∙◌, Bool, true, false, List, [], Option, None, Some, ℕ, cond, filter, if◌then◌else◌, is_none, is_some, map, max}
use Rattle.std.specs.Option.{option_map, option_map_or}
use Rattle.std.specs.Prelude.{filter_map, fold}
use Rattle.attempt_ledger.specs.Ends.{delay_of}
use Rattle.attempt_ledger.specs.Numbering.{is_transparent}
use Rattle.attempt_ledger.specs.Throttling.{codes_of}
use Rattle.attempt_ledger.specs.declared.row.RowEnd.{RowEnd}
use Rattle.call_actions.proofs.Ranks.{any_map_all, fold_map, numbered_map}
use Rattle.grpc_base.specs.Codes.{has_code}
use Rattle.grpc_base.specs.declared.plan.CallPlan.{CallPlan}
use Rattle.grpc_base.specs.declared.plan.CallPlan.TheVariants as plan
use Rattle.session_actions.specs.Attempts.{counts_by, is_counted, is_of, is_outstanding, is_queued}
use Rattle.session_actions.specs.Commitments.{is_final_end, is_final_in, is_free_call}
use Rattle.session_actions.specs.Configs.{plan_of}
use Rattle.session_actions.specs.DueAttempts.{attempts_made, counted_row, due_after_end, due_after_making, due_after_mark, due_by, due_by_plan, due_state, has_going, is_final, is_final_by, is_licensed, last_counted, last_delayed, next_due, no_due, retry_due, was_delayed}
use Rattle.session_actions.specs.Words.{holds, is_number, last_of, numbered}
use Rattle.session_actions.specs.declared.attempt.Attempt.{Attempt}
use Rattle.session_actions.specs.declared.call.Call.{Call}
use Rattle.session_actions.specs.declared.call.Mark.{Mark}
use Rattle.session_actions.specs.declared.call.MarkKind.{MarkKind}
use Rattle.session_actions.specs.declared.call.MarkKind.TheVariants as mark
use Rattle.session_actions.specs.declared.due.DueState.{DueState}
use Rattle.session_actions.specs.declared.entry.OpenEntry.{OpenEntry}
use Rattle.session_actions.specs.declared.link.Link.{Link}
use Rattle.session_actions.specs.declared.seen.Seen.{Seen}
use Rattle.session_order.proofs.Lists.{holds_same}
use Rattle.channel_actions.proofs.Streams.Opened.Rows.{counted_same, counts_same, free_same, h, queued_same, t}
use Rattle.call_actions.proofs.TakeActions.Maps.{count_map}

or_same : {X Y : Type 0} (g k : X → Y) (d : Y) → ((x : X) → g x ≡ k x) → (o : Option X) → option_map_or g o d ≡ option_map_or k o d
or_same g k d same None = refl
or_same g k d same (Some x) = same x

map_cond : (f : Attempt → Attempt) (b : Bool) (x : Attempt) (xs : List Attempt) → cond b (f x ∷ map f xs) (map f xs) ≡ map f (cond b (x ∷ xs) xs)
map_cond f true x xs = refl
map_cond f false x xs = refl

filter_map_so : (p q : Attempt → Bool) (f : Attempt → Attempt) → ((a : Attempt) → p (f a) ≡ q a) → (xs : List Attempt) → filter p (map f xs) ≡ map f (filter q xs)
filter_map_so p q f same [] = refl
filter_map_so p q f same (x ∷ xs) =
    ap (λ (b : Bool). cond b (f x ∷ filter p (map f xs)) (filter p (map f xs))) (same x)
    ∙ ap (λ (l : List Attempt). cond (q x) (f x ∷ l) l) (filter_map_so p q f same xs) ∙ map_cond f (q x) x (filter q xs)

rows_by : (m : Mark) (g k : Mark → Option ℕ) (marks : List Mark) (o : Option ℕ) → g m ≡ o → k m ≡ o → filter_map g marks ≡ filter_map k marks
    → filter_map g (m ∷ marks) ≡ filter_map k (m ∷ marks)
rows_by m g k marks None e f rest = (cc)
rows_by m g k marks (Some row) e f rest = (cc)

rows_same : (g k : Mark → Option ℕ) → ((m : Mark) → g m ≡ k m) → (marks : List Mark) → filter_map g marks ≡ filter_map k marks
rows_same g k same [] = refl
rows_same g k same (m ∷ marks) = rows_by m g k marks (k m) (same m) refl (rows_same g k same marks)

module _ (s : Seen) (g : ℕ → Option ℕ) (ls : List Link) (current : Option OpenEntry) where
  abbrev f : Attempt → Attempt
  f a = h s g ls current a

  abbrev u : Seen
  u = t s g ls current

  delayed_one : (c : Call) (k : ℕ) (a : Attempt) → was_delayed c k u (f a) ≡ was_delayed c k s a
  delayed_one c k a =
      ap (λ (x : Bool). ((is_of c a && nat_le a.row.number k) && x) && holds (λ (x : RowEnd). is_some (delay_of x.pushback)) a.row.ended) (counted_same s g ls current a)

  delayed_same : (c : Call) (k : ℕ) → last_delayed c k u ≡ last_delayed c k s
  delayed_same c k =
      ap (fold (λ (j : ℕ) (a : Attempt). max j a.row.number) 0) (filter_map_so (was_delayed c k u) (was_delayed c k s) f (delayed_one c k) s.attempts)
      ∙ fold_map (λ (j : ℕ) (a : Attempt). max j a.row.number) (λ (j : ℕ) (a : Attempt). max j a.row.number) f (λ z x. refl) 0 (filter (was_delayed c k s) s.attempts)

  plan_same : (c : Call) (a : Attempt) (w : DueState) (e : RowEnd) (p : CallPlan) → due_by_plan p c (f a) u w e ≡ due_by_plan p c a s w e
  plan_same c a w e plan.None = refl
  plan_same c a w e (plan.Retry p) =
      ap (λ (k : ℕ). record w { forced = (if is_licensed c a.row.number e.code e.pushback e.tokens s then Some (retry_due p (a.row.number - k) e) else None) })
      (delayed_same c a.row.number)
  plan_same c a w e (plan.Hedge p) = refl

  end_same : (c : Call) (w : DueState) (a : Attempt) (e : RowEnd) → due_after_end c u w (f a) e ≡ due_after_end c s w a e
  end_same c w a e =
      ap (λ (x : Bool). if (not w.stopped && x) && has_code (codes_of (plan_of c s)) e.code then due_by_plan (plan_of c s) c (f a) u w e else w) (counts_same s g ls current a e)
      ∙ ap (λ (y : DueState). if (not w.stopped && counts_by a s e) && has_code (codes_of (plan_of c s)) e.code then y else w) (plan_same c a w e (plan_of c s))

  ended_same : (c : Call) (w : DueState) (o : Option Attempt)
      → option_map_or (λ (a : Attempt). option_map_or (due_after_end c u w a) a.row.ended w) (option_map f o) w ≡ option_map_or (λ (a : Attempt). option_map_or (due_after_end c s w a) a.row.ended w) o w
  ended_same c w None = refl
  ended_same c w (Some a) = or_same (due_after_end c u w (f a)) (due_after_end c s w a) w (end_same c w a) a.row.ended

  made_same : (w : DueState) (o : Option Attempt) → option_map_or (due_after_making w) (option_map f o) w ≡ option_map_or (due_after_making w) o w
  made_same w None = refl
  made_same w (Some a) = refl

  mark_same : (c : Call) (m : MarkKind) (moment : ℕ) (w : DueState) → due_after_mark c u m moment w ≡ due_after_mark c s m moment w
  mark_same c mark.Configured moment w = refl
  mark_same c (mark.Made row) moment w = ap (λ (o : Option Attempt). option_map_or (due_after_making w) o w) (numbered_map f s.attempts row) ∙ made_same w (numbered s.attempts row)
  mark_same c (mark.Placed row) moment w = refl
  mark_same c (mark.Ended row) moment w =
      ap (λ (o : Option Attempt). option_map_or (λ (a : Attempt). option_map_or (due_after_end c u w a) a.row.ended w) o w) (numbered_map f s.attempts row)
      ∙ ended_same c w (numbered s.attempts row)
  mark_same c mark.Withheld moment w = refl
  mark_same c mark.Committed moment w = refl
  mark_same c mark.Closed moment w = refl

  due_from : (c : Call) (w : DueState) (list : List Mark)
      → fold (λ (x : DueState) (m : Mark). due_after_mark c u m.what m.moment x) w list ≡ fold (λ (x : DueState) (m : Mark). due_after_mark c s m.what m.moment x) w list
  due_from c w [] = refl
  due_from c w (m ∷ list) =
      ap (λ (z : DueState). fold (λ (x : DueState) (m : Mark). due_after_mark c u m.what m.moment x) z list) (mark_same c m.what m.moment w)
      ∙ due_from c (due_after_mark c s m.what m.moment w) list

  pub state_same : (c : Call) → due_state c u ≡ due_state c s
  state_same c = due_from c no_due c.marks

  pub made_count : (c : Call) → attempts_made c u ≡ attempts_made c s
  made_count c = count_map (λ (a : Attempt). is_of c a && not (is_transparent a.row.kind)) (λ (a : Attempt). is_of c a && not (is_transparent a.row.kind)) f (λ a. refl) s.attempts

  pub next_same : (c : Call) → next_due c u ≡ next_due c s
  next_same c =
      ap (λ (k : ℕ). due_by (plan_of c s) k (due_state c u)) (made_count c) ∙ ap (due_by (plan_of c s) (attempts_made c s)) (state_same c)

  tested_same : (o : Option Attempt) → holds (λ (a : Attempt). is_counted a u) (option_map f o) ≡ holds (λ (a : Attempt). is_counted a s) o
  tested_same None = refl
  tested_same (Some a) = counted_same s g ls current a

  row_same : (w : MarkKind) → counted_row u w ≡ counted_row s w
  row_same mark.Configured = refl
  row_same (mark.Made row) = refl
  row_same (mark.Placed row) = refl
  row_same (mark.Ended row) =
      ap (λ (x : Bool). if x then Some row else None)
      (ap (holds (λ (a : Attempt). is_counted a u)) (numbered_map f s.attempts row) ∙ tested_same (numbered s.attempts row))
  row_same mark.Withheld = refl
  row_same mark.Committed = refl
  row_same mark.Closed = refl

  pub last_same : (c : Call) → last_counted c u ≡ last_counted c s
  last_same c = ap last_of (rows_same (λ (m : Mark). counted_row u m.what) (λ (m : Mark). counted_row s m.what) (λ m. row_same m.what) c.marks)

  pub going_same : (c : Call) → has_going c u ≡ has_going c s
  going_same c =
      any_map_all (λ (a : Attempt). is_of c a && (is_outstanding a || is_queued a u)) (λ (a : Attempt). is_of c a && (is_outstanding a || is_queued a s)) f
      (λ a. ap (λ (x : Bool). is_of c a && (is_outstanding a || x)) (queued_same s g ls current a)) s.attempts

  final_by : (p : CallPlan) (c : Call) (a : Attempt) (e : RowEnd) → is_final_by p c (f a) u e ≡ is_final_by p c a s e
  final_by plan.None c a e = refl
  final_by (plan.Retry p) c a e = refl
  final_by (plan.Hedge p) c a e =
      ap (λ (o : Option ℕ). not (has_code p.codes e.code) || (is_number a.place o && is_none (next_due c u) && not (has_going c u))) (last_same c)
      ∙ ap (λ (o : Option ℕ). not (has_code p.codes e.code) || (is_number a.place (last_counted c s) && is_none o && not (has_going c u))) (next_same c)
      ∙ ap (λ (b : Bool). not (has_code p.codes e.code) || (is_number a.place (last_counted c s) && is_none (next_due c s) && not b)) (going_same c)

  pub final_in : (c : Call) (a : Attempt) → is_final_in (f a) u c ≡ is_final_in a s c
  final_in c a =
      ap (λ (b : Bool). b && is_counted (f a) u && is_final c (f a) u) (free_same s g ls current c)
      ∙ ap (λ (b : Bool). is_free_call s c && b && is_final c (f a) u) (counted_same s g ls current a)
      ∙ ap (λ (b : Bool). is_free_call s c && is_counted a s && b)
      (holds_same (is_final_by (plan_of c s) c (f a) u) (is_final_by (plan_of c s) c a s) (final_by (plan_of c s) c a) a.row.ended)

  pub final_same : (a : Attempt) → is_final_end u (f a) ≡ is_final_end s a
  final_same a = holds_same (is_final_in (f a) u) (is_final_in a s) (λ c. final_in c a) (numbered s.calls a.row.call)
