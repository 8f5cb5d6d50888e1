-- Of a call nothing changed: what a session says of its attempts, of their ends and of its next attempt is as before.
use Rattle.attempt_ledger.specs.Ends.{delay_of, is_above, is_cut}
use Rattle.attempt_ledger.specs.Numbering.{is_transparent}
use Rattle.attempt_ledger.specs.Throttling.{codes_of}
use Rattle.attempt_ledger.specs.TransparentRows.{is_by_peer, is_unsent}
use Rattle.attempt_ledger.specs.declared.row.RowCause.{RowCause}
use Rattle.attempt_ledger.specs.declared.row.RowEnd.{RowEnd}
use Rattle.call_actions.proofs.Ranks.{all_so, filter_map_where, fold_where}
use Rattle.call_actions.specs.Order.{is_own_mark}
use Rattle.call_actions.specs.Sees.{is_live, live_row, live_rows}
use Rattle.call_actions.proofs.CallsApart.Through.{any_apart, count_apart, filter_apart, holds_left, last_apart}
use Rattle.call_actions.specs.CallsApart.Apart.{IsApart}
use Rattle.grpc_base.specs.Codes.{has_code}
use Rattle.grpc_base.specs.declared.code.Code.{Code}
use Rattle.grpc_base.specs.declared.plan.CallPlan.TheVariants as plan
use Rattle.grpc_base.specs.declared.plan.CallPlan.{CallPlan}
use Rattle.grpc_base.specs.declared.plan.Pushback.{Pushback}
use Rattle.service_config.specs.Choice.{chosen_for}
use Rattle.session_actions.specs.Attempts.{call_of, commitment, counts_by, is_commitment, is_counted, is_followed, is_later_of, is_of, is_outstanding, is_over, is_over_in, is_queued, is_to_follow, of_its_call, wants_follower_by, was_refused, was_retried_so}
use Rattle.session_actions.specs.Configs.{no_choice, plan_of}
use Rattle.session_actions.specs.DueAttempts.{attempts_made, counted_row, due_after_end, due_after_making, due_after_mark, due_by_plan, due_state, hedge_forced, is_licensed, is_licensed_by, last_counted, last_delayed, no_due, retry_due, was_delayed}
use Rattle.session_actions.specs.Sessions.{call_seen}
use Rattle.session_actions.specs.Tokens.{allows_attempt}
use Rattle.session_actions.specs.Words.{holds, last_of, numbered}
use Rattle.session_actions.specs.declared.attempt.Attempt.{Attempt}
use Rattle.session_actions.specs.declared.call.Call.{Call}
use Rattle.session_actions.specs.declared.call.Mark.{Mark}
use Rattle.session_actions.specs.declared.call.MarkKind.TheVariants as mark
use Rattle.session_actions.specs.declared.call.MarkKind.{MarkKind}
use Rattle.session_actions.specs.declared.config.HeldConfig.{HeldConfig}
use Rattle.session_actions.specs.declared.due.DueState.{DueState}
use Rattle.session_actions.specs.declared.seen.Seen.{Seen}
use Rattle.std.proofs.Common.{Bool, List, None, Option, Some, ap, eqb-true, false, fold, if◌then◌else◌, is_none, is_some, map, max, nat_le, nat_lt, not, refl, sym, true, ℕ, ◌&&◌, ◌-◌, ◌==◌, ◌||◌, ◌∙◌, ◌≡◌}
use Rattle.std.proofs.lemmas.Bool.{and_parts}
use Rattle.std.specs.List.{list_all}
use Rattle.std.specs.Option.{option_map_or}

module _ (s t : Seen) (c : Call) (k : IsApart s t c) (own : numbered s.calls c.number ≡ Some c) where
  -- the call of its attempts
  pub own_then : numbered t.calls c.number ≡ Some c
  own_then = k.call ∙ own

  pub call_before : (a : Attempt) → is_of c a ≡ true → call_of a s ≡ Some c
  call_before a mine = ap (numbered s.calls) (eqb-true a.row.call c.number mine) ∙ own

  pub call_then : (a : Attempt) → is_of c a ≡ true → call_of a t ≡ Some c
  call_then a mine = ap (numbered t.calls) (eqb-true a.row.call c.number mine) ∙ own_then

  -- its attempts
  later_restricted : (a : Attempt) → is_of c a ≡ true → (q : Attempt) → is_of c q ≡ false → is_later_of a q ≡ false
  later_restricted a mine q e =
      ap (λ (n : ℕ). ((q.row.call == n) && (q.row.number == a.row.number)) && nat_lt a.place q.place) (eqb-true a.row.call c.number mine)
      ∙ ap (λ (b : Bool). (b && (q.row.number == a.row.number)) && nat_lt a.place q.place) e

  pub followed_same : (a : Attempt) → is_of c a ≡ true → is_followed a t ≡ is_followed a s
  followed_same a mine =
      any_apart (is_of c) (is_later_of a) (is_later_of a) (later_restricted a mine) (later_restricted a mine) (λ q e. refl) s.attempts t.attempts k.attempts

  pub commitment_same : commitment c t ≡ commitment c s
  commitment_same =
      last_apart (is_of c) (is_commitment c) (λ q e. ap (λ (b : Bool). b && is_some q.row.committed) e) s.attempts t.attempts k.attempts

  pub made_same : attempts_made c t ≡ attempts_made c s
  made_same =
      count_apart (is_of c) (λ (a : Attempt). is_of c a && not (is_transparent a.row.kind)) (λ q e. ap (λ (b : Bool). b && not (is_transparent q.row.kind)) e)
      s.attempts t.attempts k.attempts

  pub over_same : (a : Attempt) → is_of c a ≡ true → is_over a t ≡ is_over a s
  over_same a mine =
      ap (holds (λ (d : Call). is_over_in d a t)) (call_then a mine)
      ∙ ap (λ (o : Option Attempt). is_some c.end || holds (λ (q : Attempt). not (q.row.number == a.row.number)) o) commitment_same
      ∙ sym (ap (holds (λ (d : Call). is_over_in d a s)) (call_before a mine))

  retried_restricted : (z : Seen) (q : Attempt) → is_of c q ≡ false → (is_of c q && was_refused q && is_followed q z) ≡ false
  retried_restricted z q e = ap (λ (b : Bool). (b && was_refused q) && is_followed q z) e

  pub retried_same : was_retried_so c t ≡ was_retried_so c s
  retried_same =
      any_apart (is_of c) (λ (q : Attempt). is_of c q && was_refused q && is_followed q t) (λ (q : Attempt). is_of c q && was_refused q && is_followed q s)
      (retried_restricted t) (retried_restricted s) (λ q mine. ap (λ (b : Bool). (is_of c q && was_refused q) && b) (followed_same q mine)) s.attempts t.attempts k.attempts

  pub follow_same : (why : RowCause) (unseen : Bool) → is_to_follow c why unseen t ≡ is_to_follow c why unseen s
  follow_same why unseen =
      ap (λ (o : Option Attempt). is_unsent why || (unseen && is_by_peer why && is_none o && not (was_retried_so c t))) commitment_same
      ∙ ap (λ (b : Bool). is_unsent why || (unseen && is_by_peer why && is_none (commitment c s) && not b)) retried_same

  pub wants_same : (a : Attempt) → is_of c a ≡ true → (e : RowEnd) → wants_follower_by a t e ≡ wants_follower_by a s e
  wants_same a mine e =
      ap (λ (b : Bool). not b && of_its_call (λ (d : Call). is_to_follow d e.cause e.unseen t) a t) (followed_same a mine)
      ∙ ap (λ (b : Bool). not (is_followed a s) && b)
      (ap (holds (λ (d : Call). is_to_follow d e.cause e.unseen t)) (call_then a mine) ∙ follow_same e.cause e.unseen
      ∙ sym (ap (holds (λ (d : Call). is_to_follow d e.cause e.unseen s)) (call_before a mine)))

  pub counts_same : (a : Attempt) → is_of c a ≡ true → (e : RowEnd) → counts_by a t e ≡ counts_by a s e
  counts_same a mine e =
      ap (λ (b : Bool). not (is_cut e.cause) && not b && not (wants_follower_by a t e)) (followed_same a mine)
      ∙ ap (λ (b : Bool). not (is_cut e.cause) && not (is_followed a s) && not b) (wants_same a mine e)

  counted_by : (a : Attempt) → is_of c a ≡ true → (o : Option RowEnd) → holds (counts_by a t) o ≡ holds (counts_by a s) o
  counted_by a mine None = refl
  counted_by a mine (Some e) = counts_same a mine e

  pub counted_same : (a : Attempt) → is_of c a ≡ true → is_counted a t ≡ is_counted a s
  counted_same a mine = counted_by a mine a.row.ended

  -- its config
  pub plan_same : plan_of c t ≡ plan_of c s
  plan_same = ap (λ (o : Option HeldConfig). (option_map_or (λ (h : HeldConfig). chosen_for h.config c.request.path) o no_choice).plan) k.config

  allows_same : (tokens : Option ℕ) → allows_attempt c tokens t ≡ allows_attempt c tokens s
  allows_same tokens = ap (λ o. is_above o tokens) k.throttle

  pub licensed_same : (n : ℕ) (code : Code) (asks : Pushback) (tokens : Option ℕ) → is_licensed c n code asks tokens t ≡ is_licensed c n code asks tokens s
  licensed_same n code asks tokens =
      ap (λ (p : CallPlan). is_licensed_by p n code asks (allows_attempt c tokens t)) plan_same
      ∙ ap (λ (b : Bool). is_licensed_by (plan_of c s) n code asks b) (allows_same tokens)

  -- when its next attempt is due
  delayed_restricted : (n : ℕ) (z : Seen) (q : Attempt) → is_of c q ≡ false → was_delayed c n z q ≡ false
  delayed_restricted n z q e =
      ap (λ (b : Bool). ((b && nat_le q.row.number n) && is_counted q z) && holds (λ (d : RowEnd). is_some (delay_of d.pushback)) q.row.ended) e

  pub delayed_same : (n : ℕ) → last_delayed c n t ≡ last_delayed c n s
  delayed_same n =
      ap (fold (λ (j : ℕ) (a : Attempt). max j a.row.number) 0)
      (filter_apart (is_of c) (was_delayed c n t) (was_delayed c n s) (delayed_restricted n t) (delayed_restricted n s)
      (λ q mine. ap (λ (b : Bool). ((is_of c q && nat_le q.row.number n) && b) && holds (λ (d : RowEnd). is_some (delay_of d.pushback)) q.row.ended) (counted_same q mine))
      s.attempts t.attempts k.attempts)

  by_plan_same : (p : CallPlan) (a : Attempt) (d : DueState) (e : RowEnd) → due_by_plan p c a t d e ≡ due_by_plan p c a s d e
  by_plan_same plan.None a d e = refl
  by_plan_same (plan.Retry p) a d e =
      ap (λ (b : Bool). record d { forced = (if b then Some (retry_due p (a.row.number - last_delayed c a.row.number t) e) else None) })
      (licensed_same a.row.number e.code e.pushback e.tokens)
      ∙ ap (λ (n : ℕ). record d { forced = (if is_licensed c a.row.number e.code e.pushback e.tokens s then Some (retry_due p (a.row.number - n) e) else None) })
      (delayed_same a.row.number)
  by_plan_same (plan.Hedge p) a d e = ap (λ (b : Bool). hedge_forced e.pushback b e d) (allows_same e.tokens)

  end_same : (d : DueState) (a : Attempt) → is_of c a ≡ true → (e : RowEnd) → due_after_end c t d a e ≡ due_after_end c s d a e
  end_same d a mine e =
      ap (λ (x : Bool). if (not d.stopped && x) && has_code (codes_of (plan_of c t)) e.code then due_by_plan (plan_of c t) c a t d e else d) (counts_same a mine e)
      ∙ ap (λ (p : CallPlan). if (not d.stopped && counts_by a s e) && has_code (codes_of p) e.code then due_by_plan p c a t d e else d) plan_same
      ∙ ap (λ (y : DueState). if (not d.stopped && counts_by a s e) && has_code (codes_of (plan_of c s)) e.code then y else d) (by_plan_same (plan_of c s) a d e)

  ends_same : (d : DueState) (a : Attempt) → is_of c a ≡ true → (o : Option RowEnd)
      → option_map_or (due_after_end c t d a) o d ≡ option_map_or (due_after_end c s d a) o d
  ends_same d a mine None = refl
  ends_same d a mine (Some e) = end_same d a mine e

  own_end_by : (d : DueState) (o : Option Attempt) → holds (is_of c) o ≡ true
      → option_map_or (λ (a : Attempt). option_map_or (due_after_end c t d a) a.row.ended d) o d
      ≡ option_map_or (λ (a : Attempt). option_map_or (due_after_end c s d a) a.row.ended d) o d
  own_end_by d None mine = refl
  own_end_by d (Some a) mine = ends_same d a mine a.row.ended

  -- a mark that names an attempt of it
  pub ended_mine : (row : ℕ) → holds (λ (a : Attempt). is_of c a && is_some a.row.ended) (numbered s.attempts row) ≡ true → holds (is_of c) (numbered s.attempts row) ≡ true
  ended_mine row mine =
      holds_left (is_of c) (λ (a : Attempt). is_of c a && is_some a.row.ended) (numbered s.attempts row)
      (λ a e. (and_parts (is_of c a) (is_some a.row.ended) e).0) mine

  mark_same : (w : MarkKind) (moment : ℕ) (d : DueState) → is_own_mark s c w ≡ true → due_after_mark c t w moment d ≡ due_after_mark c s w moment d
  mark_same mark.Configured moment d mine = refl
  mark_same (mark.Made row) moment d mine = ap (λ (o : Option Attempt). option_map_or (due_after_making d) o d) (k.rows row mine)
  mark_same (mark.Placed row) moment d mine = refl
  mark_same (mark.Ended row) moment d mine =
      ap (λ (o : Option Attempt). option_map_or (λ (a : Attempt). option_map_or (due_after_end c t d a) a.row.ended d) o d) (k.rows row (ended_mine row mine))
      ∙ own_end_by d (numbered s.attempts row) (ended_mine row mine)
  mark_same mark.Withheld moment d mine = refl
  mark_same mark.Committed moment d mine = refl
  mark_same mark.Closed moment d mine = refl

  pub due_same : list_all (λ (m : Mark). is_own_mark s c m.what) c.marks ≡ true → due_state c t ≡ due_state c s
  due_same mine =
      fold_where (λ (d : DueState) (m : Mark). due_after_mark c t m.what m.moment d) (λ (d : DueState) (m : Mark). due_after_mark c s m.what m.moment d)
      (λ (m : Mark). is_own_mark s c m.what) (λ d m good. mark_same m.what m.moment d good) no_due c.marks mine

  -- which end counted last
  counted_own : (o : Option Attempt) → holds (is_of c) o ≡ true → holds (λ (a : Attempt). is_counted a t) o ≡ holds (λ (a : Attempt). is_counted a s) o
  counted_own None mine = refl
  counted_own (Some a) mine = counted_same a mine

  row_same : (w : MarkKind) → is_own_mark s c w ≡ true → counted_row t w ≡ counted_row s w
  row_same mark.Configured mine = refl
  row_same (mark.Made row) mine = refl
  row_same (mark.Placed row) mine = refl
  row_same (mark.Ended row) mine =
      ap (λ (o : Option Attempt). if holds (λ (a : Attempt). is_counted a t) o then Some row else None) (k.rows row (ended_mine row mine))
      ∙ ap (λ (b : Bool). if b then Some row else None) (counted_own (numbered s.attempts row) (ended_mine row mine))
  row_same mark.Withheld mine = refl
  row_same mark.Committed mine = refl
  row_same mark.Closed mine = refl

  pub last_same : list_all (λ (m : Mark). is_own_mark s c m.what) c.marks ≡ true → last_counted c t ≡ last_counted c s
  last_same mine =
      ap last_of
      (filter_map_where (λ (m : Mark). counted_row t m.what) (λ (m : Mark). counted_row s m.what) (λ (m : Mark). is_own_mark s c m.what)
      (λ m good. row_same m.what good) c.marks mine)

  -- its live rows, and its part of the ledger
  live_restricted : (z : Seen) (q : Attempt) → is_of c q ≡ false → is_live z c q ≡ false
  live_restricted z q e = ap (λ (b : Bool). b && (is_outstanding q || is_queued q z)) e

  pub live_one : (q : Attempt) → is_of c q ≡ true → is_live t c q ≡ is_live s c q
  live_one q mine = ap (λ (x : Bool). is_of c q && (is_outstanding q || ((is_none q.row.placed && is_none q.row.ended) && not x))) (over_same q mine)

  pub live_same : live_rows t c ≡ live_rows s c
  live_same =
      ap (map live_row) (filter_apart (is_of c) (is_live t c) (is_live s c) (live_restricted t) (live_restricted s) live_one s.attempts t.attempts k.attempts)

  pub seen_same : call_seen t c ≡ call_seen s c
  seen_same =
      ap (λ (l : List Attempt). record { begun = c.begun; configured = c.configured; made = map (λ (a : Attempt). a.made) l; end = c.end }) k.attempts

  -- its marks are still its own
  own_by : (test : Attempt → Bool) (row : ℕ) → holds (is_of c) (numbered s.attempts row) ≡ true → holds test (numbered s.attempts row) ≡ true
      → holds test (numbered t.attempts row) ≡ true
  own_by test row mine e = ap (holds test) (k.rows row mine) ∙ e

  own_mark_same : (w : MarkKind) → is_own_mark s c w ≡ true → is_own_mark t c w ≡ true
  own_mark_same mark.Configured mine = refl
  own_mark_same (mark.Made row) mine = own_by (is_of c) row mine mine
  own_mark_same (mark.Placed row) mine = refl
  own_mark_same (mark.Ended row) mine = own_by (λ (a : Attempt). is_of c a && is_some a.row.ended) row (ended_mine row mine) mine
  own_mark_same mark.Withheld mine = refl
  own_mark_same mark.Committed mine = refl
  own_mark_same mark.Closed mine = refl

  pub marks_same : list_all (λ (m : Mark). is_own_mark s c m.what) c.marks ≡ true → list_all (λ (m : Mark). is_own_mark t c m.what) c.marks ≡ true
  marks_same mine = all_so (λ (m : Mark). is_own_mark s c m.what) (λ (m : Mark). is_own_mark t c m.what) (λ m good. own_mark_same m.what good) c.marks mine
