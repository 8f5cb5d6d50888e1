-- An attempt gets its place on a link: no end counts otherwise for that, and the same attempts go on.
use Rattle.std.proofs.Common.{◌≡◌, ◌-◌, ◌+◌, ◌∷◌, ◌&&◌, not, nat_le, ap, refl, ◌∙◌, Bool, false, List, [], Option, None, Some, ℕ, cond, filter, if◌then◌else◌, is_some, map, max, option_map}
use Rattle.std.specs.List.{list_any}
use Rattle.std.specs.Option.{option_map_or}
use Rattle.std.specs.Prelude.{filter_map, fold}
use Rattle.attempt_ledger.specs.Ends.{delay_of}
use Rattle.attempt_ledger.specs.Numbering.{is_transparent}
use Rattle.attempt_ledger.specs.Throttling.{codes_of}
use Rattle.attempt_ledger.specs.declared.row.Placed.{Placed}
use Rattle.attempt_ledger.specs.declared.row.RowEnd.{RowEnd}
use Rattle.call_actions.proofs.Columns as columns
use Rattle.call_actions.proofs.Columns.{Writes, written, written_seen}
use Rattle.call_actions.proofs.Frames.{bucket_by, holds_same, or_same, rows_same}
use Rattle.call_actions.proofs.Ranks.{filter_mapped, fold_map, numbered_map}
use Rattle.call_actions.specs.Order.{is_own_mark}
use Rattle.call_actions.specs.Sees.{bucket_of}
use Rattle.grpc_base.specs.Codes.{has_code}
use Rattle.grpc_base.specs.declared.plan.CallPlan.{CallPlan}
use Rattle.grpc_base.specs.declared.plan.CallPlan.TheVariants as plan
use Rattle.session_actions.specs.Attempts.{counts_by, is_counted, is_of}
use Rattle.session_actions.specs.Configs.{plan_of}
use Rattle.session_actions.specs.DueAttempts.{attempts_made, counted_row, due_after_end, due_after_making, due_after_mark, due_by_plan, is_licensed, last_delayed, retry_due, was_delayed}
use Rattle.session_actions.specs.Tokens.{tokens_by}
use Rattle.session_actions.specs.Words.{holds, numbered}
use Rattle.session_actions.specs.declared.attempt.Attempt.{Attempt}
use Rattle.session_actions.specs.declared.call.Call.{Call}
use Rattle.session_actions.specs.declared.call.Mark.{Mark}
use Rattle.session_actions.specs.declared.call.MarkKind.{MarkKind}
use Rattle.session_actions.specs.declared.call.MarkKind.TheVariants as mark
use Rattle.session_actions.specs.declared.config.ThrottleRun.{ThrottleRun}
use Rattle.session_actions.specs.declared.due.DueState.{DueState}
use Rattle.session_actions.specs.declared.seen.Seen.{Seen}

pub none_bad : (xs : List Attempt) → list_any (λ (q : Attempt). false) xs ≡ false
none_bad [] = refl
none_bad (x ∷ xs) = none_bad xs

module _ (s : Seen) (pl : Attempt → Option Placed) where
  abbrev en : Attempt → Option RowEnd
  en a = a.row.ended

  abbrev bad : Attempt → Bool
  bad a = false

  abbrev h : Attempt → Attempt
  h a = written pl en a

  abbrev t : Seen
  t = written_seen pl en s

  pub writes : Writes s en bad
  writes = record { none = none_bad s.attempts; refused = λ q good. refl }

  counted_same : (a : Attempt) → is_counted (h a) t ≡ is_counted a s
  counted_same a = holds_same (counts_by (h a) t) (counts_by a s) (columns.counts_same s pl en bad writes a) a.row.ended

  delayed_one : (c : Call) (n : ℕ) (a : Attempt) → was_delayed c n t (h a) ≡ was_delayed c n s a
  delayed_one c n a =
      ap (λ (x : Bool). ((is_of c a && nat_le a.row.number n) && x) && holds (λ (d : RowEnd). is_some (delay_of d.pushback)) a.row.ended) (counted_same a)

  pub delayed_same : (c : Call) (n : ℕ) → last_delayed c n t ≡ last_delayed c n s
  delayed_same c n =
      ap (fold (λ (j : ℕ) (a : Attempt). max j a.row.number) 0)
      (filter_mapped (was_delayed c n t) (was_delayed c n s) bad h (λ a good. delayed_one c n a) s.attempts (none_bad s.attempts))
      ∙ fold_map (λ (j : ℕ) (a : Attempt). max j a.row.number) (λ (j : ℕ) (a : Attempt). max j a.row.number) h (λ j a. refl) 0 (filter (was_delayed c n s) s.attempts)

  pub made_same : (c : Call) → attempts_made c t ≡ attempts_made c s
  made_same c =
      fold_map (λ (n : ℕ) (a : Attempt). n + cond (is_of c a && not (is_transparent a.row.kind)) 1 0)
      (λ (n : ℕ) (a : Attempt). n + cond (is_of c a && not (is_transparent a.row.kind)) 1 0) h (λ n a. refl) 0 s.attempts

  -- when the next attempt is due
  plan_same : (c : Call) (a : Attempt) (d : DueState) (e : RowEnd) (p : CallPlan) → due_by_plan p c (h a) t d e ≡ due_by_plan p c a s d e
  plan_same c a d e plan.None = refl
  plan_same c a d e (plan.Retry p) =
      ap (λ (n : ℕ). record d { forced = (if is_licensed c a.row.number e.code e.pushback e.tokens s then Some (retry_due p (a.row.number - n) e) else None) })
      (delayed_same c a.row.number)
  plan_same c a d e (plan.Hedge p) = refl

  end_same : (c : Call) (d : DueState) (a : Attempt) (e : RowEnd) → due_after_end c t d (h a) e ≡ due_after_end c s d a e
  end_same c d a e =
      ap (λ (x : Bool). if (not d.stopped && x) && has_code (codes_of (plan_of c s)) e.code then due_by_plan (plan_of c s) c (h a) t d e else d)
      (columns.counts_same s pl en bad writes a e)
      ∙ ap (λ (y : DueState). if (not d.stopped && counts_by a s e) && has_code (codes_of (plan_of c s)) e.code then y else d) (plan_same c a d e (plan_of c s))

  made_by : (d : DueState) (o : Option Attempt) → option_map_or (due_after_making d) (option_map h o) d ≡ option_map_or (due_after_making d) o d
  made_by d None = refl
  made_by d (Some a) = refl

  ended_by : (c : Call) (d : DueState) (o : Option Attempt)
      → option_map_or (λ (a : Attempt). option_map_or (due_after_end c t d a) a.row.ended d) (option_map h o) d
      ≡ option_map_or (λ (a : Attempt). option_map_or (due_after_end c s d a) a.row.ended d) o d
  ended_by c d None = refl
  ended_by c d (Some a) = or_same (due_after_end c t d (h a)) (due_after_end c s d a) d (end_same c d a) a.row.ended

  mark_same : (c : Call) (w : MarkKind) (moment : ℕ) (d : DueState) → due_after_mark c t w moment d ≡ due_after_mark c s w moment d
  mark_same c mark.Configured moment d = refl
  mark_same c (mark.Made row) moment d =
      ap (λ (o : Option Attempt). option_map_or (due_after_making d) o d) (numbered_map h s.attempts row) ∙ made_by d (numbered s.attempts row)
  mark_same c (mark.Placed row) moment d = refl
  mark_same c (mark.Ended row) moment d =
      ap (λ (o : Option Attempt). option_map_or (λ (a : Attempt). option_map_or (due_after_end c t d a) a.row.ended d) o d) (numbered_map h s.attempts row)
      ∙ ended_by c d (numbered s.attempts row)
  mark_same c mark.Withheld moment d = refl
  mark_same c mark.Committed moment d = refl
  mark_same c mark.Closed moment d = refl

  pub due_same : (c : Call) (d : DueState) (marks : List Mark)
      → fold (λ (d : DueState) (m : Mark). due_after_mark c t m.what m.moment d) d marks ≡ fold (λ (d : DueState) (m : Mark). due_after_mark c s m.what m.moment d) d marks
  due_same c d [] = refl
  due_same c d (m ∷ marks) =
      ap (λ (z : DueState). fold (λ (d : DueState) (m : Mark). due_after_mark c t m.what m.moment d) z marks) (mark_same c m.what m.moment d)
      ∙ due_same c (due_after_mark c s m.what m.moment d) marks

  -- which end counted last
  row_by : (o : Option Attempt) → holds (λ (a : Attempt). is_counted a t) (option_map h o) ≡ holds (λ (a : Attempt). is_counted a s) o
  row_by None = refl
  row_by (Some a) = counted_same a

  row_same : (w : MarkKind) → counted_row t w ≡ counted_row s w
  row_same mark.Configured = refl
  row_same (mark.Made row) = refl
  row_same (mark.Placed row) = refl
  row_same (mark.Ended row) =
      ap (λ (x : Bool). if x then Some row else None)
      (ap (holds (λ (a : Attempt). is_counted a t)) (numbered_map h s.attempts row) ∙ row_by (numbered s.attempts row))
  row_same mark.Withheld = refl
  row_same mark.Committed = refl
  row_same mark.Closed = refl

  pub counted_rows_same : (marks : List Mark) → filter_map (λ (m : Mark). counted_row t m.what) marks ≡ filter_map (λ (m : Mark). counted_row s m.what) marks
  counted_rows_same marks = rows_same (λ (m : Mark). counted_row t m.what) (λ (m : Mark). counted_row s m.what) (λ m. row_same m.what) marks

  -- its marks are still its own
  own_of : (c : Call) (o : Option Attempt) → holds (is_of c) (option_map h o) ≡ holds (is_of c) o
  own_of c None = refl
  own_of c (Some a) = refl

  own_ended : (c : Call) (o : Option Attempt)
      → holds (λ (a : Attempt). is_of c a && is_some a.row.ended) (option_map h o) ≡ holds (λ (a : Attempt). is_of c a && is_some a.row.ended) o
  own_ended c None = refl
  own_ended c (Some a) = refl

  pub own_same : (c : Call) (w : MarkKind) → is_own_mark t c w ≡ is_own_mark s c w
  own_same c mark.Configured = refl
  own_same c (mark.Made row) = ap (holds (is_of c)) (numbered_map h s.attempts row) ∙ own_of c (numbered s.attempts row)
  own_same c (mark.Placed row) = refl
  own_same c (mark.Ended row) = ap (holds (λ (a : Attempt). is_of c a && is_some a.row.ended)) (numbered_map h s.attempts row) ∙ own_ended c (numbered s.attempts row)
  own_same c mark.Withheld = refl
  own_same c mark.Committed = refl
  own_same c mark.Closed = refl

  -- the tokens of a run
  token_by : (run : ThrottleRun) (count : ℕ) (o : Option Attempt) → tokens_by run t count (option_map h o) ≡ tokens_by run s count o
  token_by run count None = refl
  token_by run count (Some a) = refl

  tokens_same : (run : ThrottleRun) (count : ℕ) (places : List ℕ)
      → fold (λ (n place : ℕ). tokens_by run t n (numbered (map h s.attempts) place)) count places ≡ fold (λ (n place : ℕ). tokens_by run s n (numbered s.attempts place)) count places
  tokens_same run count [] = refl
  tokens_same run count (place ∷ places) =
      ap (λ (n : ℕ). fold (λ (j at : ℕ). tokens_by run t j (numbered (map h s.attempts) at)) n places)
      (ap (tokens_by run t count) (numbered_map h s.attempts place) ∙ token_by run count (numbered s.attempts place))
      ∙ tokens_same run (tokens_by run s count (numbered s.attempts place)) places

  pub bucket_same : (o : Option ThrottleRun) → option_map (bucket_of t) o ≡ option_map (bucket_of s) o
  bucket_same None = refl
  bucket_same (Some run) = ap (λ (n : ℕ). Some (bucket_by run n)) (tokens_same run run.throttle.start run.ends)
