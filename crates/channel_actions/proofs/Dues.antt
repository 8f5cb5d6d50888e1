-- The due moments of attempts hang on neither the entry that is open, nor on links: what is kept of a call decides them.
use Rattle.std.proofs.Common.{◌≡◌, ◌&&◌, ◌||◌, ◌∷◌, ap, refl, ◌∙◌, Bool, List, [], Option, None, Some, ℕ, cond, if◌then◌else◌, is_none, not}
use Rattle.std.specs.Option.{option_map, option_map_or}
use Rattle.std.specs.Prelude.{find, fold}
use Rattle.attempt_ledger.specs.Throttling.{codes_of}
use Rattle.attempt_ledger.specs.declared.row.RowEnd.{RowEnd}
use Rattle.channel_actions.specs.Calls.{due_of}
use Rattle.channel_actions.specs.Sets.{is_in_dues}
use Rattle.grpc_base.specs.Codes.{has_code}
use Rattle.grpc_base.specs.declared.event.Entry.{Entry}
use Rattle.grpc_base.specs.declared.plan.CallPlan.{CallPlan}
use Rattle.grpc_base.specs.declared.plan.CallPlan.TheVariants as plan
use Rattle.session_actions.specs.Attempts.{counts_by, is_counted}
use Rattle.session_actions.specs.Calls.{is_open_call}
use Rattle.session_actions.specs.Commitments.{is_final_end, is_free_call, next_final}
use Rattle.session_actions.specs.Configs.{plan_of}
use Rattle.session_actions.specs.DueAttempts.{attempts_made, due_after_end, due_after_mark, due_by, due_by_plan, due_state, has_going, is_final_by, last_counted, next_due, no_due}
use Rattle.session_actions.specs.Words.{holds, is_number, numbered}
use Rattle.session_actions.specs.declared.action.Action.TheVariants as action
use Rattle.session_actions.specs.declared.action.CommitCause.TheVariants as commit
use Rattle.session_actions.specs.declared.attempt.Attempt.{Attempt}
use Rattle.session_actions.specs.declared.call.Call.{Call}
use Rattle.session_actions.specs.declared.call.Mark.{Mark}
use Rattle.session_actions.specs.declared.call.MarkKind.{MarkKind}
use Rattle.session_actions.specs.declared.call.MarkKind.TheVariants as mark
use Rattle.session_actions.specs.declared.due.DueState.{DueState}
use Rattle.session_actions.specs.declared.entry.OpenEntry.{OpenEntry}
use Rattle.session_actions.specs.declared.link.Link.{Link}
use Rattle.session_actions.specs.declared.seen.Seen.{Seen}

or_same : {X Y : Type 0} (f g : X → Y) (d : Y) → ((x : X) → f x ≡ g x) → (o : Option X) → option_map_or f o d ≡ option_map_or g o d
or_same f g d same None = refl
or_same f g d same (Some x) = same x

holds_same : {X : Type 0} (f g : X → Bool) → ((x : X) → f x ≡ g x) → (o : Option X) → holds f o ≡ holds g o
holds_same f g same None = refl
holds_same f g same (Some x) = same x

found_same : {X : Type 0} (f g : X → Bool) → ((x : X) → f x ≡ g x) → (xs : List X) → find f xs ≡ find g xs
found_same f g same [] = refl
found_same f g same (x ∷ xs) = ap (λ (b : Bool). cond b (Some x) (find f xs)) (same x) ∙ ap (λ (o : Option _). cond (g x) (Some x) o) (found_same f g same xs)

module _ (s : Seen) (entries : List Entry) (current : Option OpenEntry) (answered wants : Bool) (links : List Link) where
  abbrev t : Seen
  t = record s { entries = entries; current = current; answered = answered; wants = wants; links = links }

  plan_same : (p : CallPlan) (c : Call) (a : Attempt) (d : DueState) (e : RowEnd) → due_by_plan p c a t d e ≡ due_by_plan p c a s d e
  plan_same plan.None c a d e = refl
  plan_same (plan.Retry p) c a d e = refl
  plan_same (plan.Hedge p) c a d e = refl

  end_same : (c : Call) (d : DueState) (a : Attempt) (e : RowEnd) → due_after_end c t d a e ≡ due_after_end c s d a e
  end_same c d a e =
      ap (λ (z : DueState). if not d.stopped && counts_by a s e && has_code (codes_of (plan_of c s)) e.code then z else d) (plan_same (plan_of c s) c a d e)

  mark_same : (c : Call) (w : MarkKind) (moment : ℕ) (d : DueState) → due_after_mark c t w moment d ≡ due_after_mark c s w moment d
  mark_same c mark.Configured moment d = refl
  mark_same c (mark.Made row) moment d = refl
  mark_same c (mark.Placed row) moment d = refl
  mark_same c (mark.Ended row) moment d =
      or_same (λ (a : Attempt). option_map_or (due_after_end c t d a) a.row.ended d) (λ (a : Attempt). option_map_or (due_after_end c s d a) a.row.ended d) d
      (λ a. or_same (due_after_end c t d a) (due_after_end c s d a) d (end_same c d a) a.row.ended) (numbered s.attempts row)
  mark_same c mark.Withheld moment d = refl
  mark_same c mark.Committed moment d = refl
  mark_same c mark.Closed moment d = refl

  marks_same : (c : Call) (d : DueState) (ms : List Mark)
      → fold (λ (d : DueState) (m : Mark). due_after_mark c t m.what m.moment d) d ms ≡ fold (λ (d : DueState) (m : Mark). due_after_mark c s m.what m.moment d) d ms
  marks_same c d [] = refl
  marks_same c d (m ∷ ms) =
      ap (λ (z : DueState). fold (λ (d : DueState) (m : Mark). due_after_mark c t m.what m.moment d) z ms) (mark_same c m.what m.moment d)
      ∙ marks_same c (due_after_mark c s m.what m.moment d) ms

  pub state_same : (c : Call) → due_state c t ≡ due_state c s
  state_same c = marks_same c no_due c.marks

  pub next_same : (c : Call) → next_due c t ≡ next_due c s
  next_same c = ap (due_by (plan_of c s) (attempts_made c s)) (state_same c)

  pub due_same : (c : Call) → due_of t c ≡ due_of s c
  due_same c = ap (λ (o : Option ℕ). if is_open_call c then o else None) (next_same c)

  pub in_dues_same : (m n : ℕ) → is_in_dues t m n ≡ is_in_dues s m n
  in_dues_same m n =
      holds_same (λ (c : Call). is_number m (due_of t c)) (λ (c : Call). is_number m (due_of s c)) (λ c. ap (is_number m) (due_same c)) (numbered s.calls n)

  -- so which end is final does not hang on them either
  final_by_same : (p : CallPlan) (c : Call) (a : Attempt) (e : RowEnd) → is_final_by p c a t e ≡ is_final_by p c a s e
  final_by_same plan.None c a e = refl
  final_by_same (plan.Retry p) c a e = refl
  final_by_same (plan.Hedge p) c a e =
      ap (λ (o : Option ℕ). not (has_code p.codes e.code) || (is_number a.place (last_counted c s) && is_none o && not (has_going c s))) (next_same c)

  final_same : (a : Attempt) → is_final_end t a ≡ is_final_end s a
  final_same a =
      holds_same
      (λ (c : Call). is_free_call s c && is_counted a s && holds (is_final_by (plan_of c s) c a t) a.row.ended)
      (λ (c : Call). is_free_call s c && is_counted a s && holds (is_final_by (plan_of c s) c a s) a.row.ended)
      (λ c. ap (λ (b : Bool). is_free_call s c && is_counted a s && b) (holds_same (is_final_by (plan_of c s) c a t) (is_final_by (plan_of c s) c a s) (final_by_same (plan_of c s) c a) a.row.ended))
      (numbered s.calls a.row.call)

  pub next_final_same : next_final t ≡ next_final s
  next_final_same =
      ap (option_map (λ (a : Attempt). action.CallCommitted a.place commit.Final)) (found_same (is_final_end t) (is_final_end s) final_same s.attempts)
