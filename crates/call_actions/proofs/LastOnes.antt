-- Which ends are last: no further attempt follows them, and the call ends by them.
use Rattle.std.proofs.Common.{◌≡◌, ◌≤◌, ◌&&◌, ◌||◌, ◌==◌, ap, arith, refl, subst, sym, ◌∙◌, Bool, true, false, None, ℕ, zero, suc, ◌-◌, if◌then◌else◌, option_map}
use Rattle.std.proofs.Math.Nat.{max-eq_left}
use Rattle.std.proofs.lemmas.Bool.{eqb-false, not-true}
use Rattle.attempt_ledger.specs.Ends as reads
use Rattle.attempt_ledger.specs.Ends.{delay_of}
use Rattle.attempt_ledger.specs.declared.next.Next.{Next}
use Rattle.attempt_ledger.specs.declared.next.Next.TheVariants as next
use Rattle.attempt_ledger.specs.declared.row.RowEnd.{RowEnd}
use Rattle.call_actions.proofs.Ending.{count_then, e, its_end, judges, lent_then, tokens_end, reported}
use Rattle.call_actions.proofs.Judging.{above_is}
use Rattle.call_actions.proofs.Lists.{numbered_not}
use Rattle.call_actions.proofs.Dues.{plan_is}
use Rattle.call_actions.specs.Laws.{FinalEndsClose, IsCounting, IsEnding, is_last_end}
use Rattle.call_actions.specs.Order.{IsInOrder, IsInTurn}
use Rattle.call_actions.specs.Sees.{Sees}
use Rattle.call_core.specs.Parts as parts
use Rattle.call_core.specs.Parts.{committed_attempts, from_one, has_none, judged, lasted_attempts, retry_after, stopped_attempts, without}
use Rattle.call_core.specs.Steps.{Stepped}
use Rattle.call_core.specs.declared.attempts.Attempts.{Attempts}
use Rattle.call_core.specs.declared.judge.Judged.{Judged}
use Rattle.grpc_base.specs.declared.plan.CallPlan.{CallPlan}
use Rattle.grpc_base.specs.declared.plan.CallPlan.TheVariants as plan
use Rattle.grpc_base.specs.declared.plan.RetryPolicy.{RetryPolicy}
use Rattle.hedge_core.specs.DueMoments as hedging
use Rattle.retry_core.specs.Retries as retries
use Rattle.session_actions.specs.AttemptEnds.{tokens_at_end}
use Rattle.session_actions.specs.Attempts.{commitment, is_of}
use Rattle.session_actions.specs.Configs.{plan_of}
use Rattle.session_actions.specs.DueAttempts.{is_licensed, is_licensed_by}
use Rattle.session_actions.specs.Entries.{next_word}
use Rattle.session_actions.specs.Tokens.{allows_attempt, run_of}
use Rattle.session_actions.specs.declared.attempt.Attempt.{Attempt}
use Rattle.session_actions.specs.declared.call.Call.{Call}
use Rattle.session_actions.specs.declared.config.ThrottleRun.{ThrottleRun}
use Rattle.session_actions.specs.declared.response.Outcome.{Outcome}
use Rattle.session_actions.specs.declared.seen.Seen.{Seen}
use Rattle.call_actions.proofs.Final.{ClosesNow, ends_by_last}

positive : (k : ℕ) → (k ≡ 0 → ⊥) → 1 ≤ k
positive zero off = absurd (off refl)
positive (suc k) off = omega arith

-- an end that licenses no retry, or has a code that hedgingPolicy does not name
module _ (s : Seen) (c : Call) (x : Stepped) (place : ℕ) (a : Attempt) (out : Outcome) (h : Sees s c x) (o : IsInOrder s c) (turn : IsInTurn s c)
    (g : IsEnding s c place a out) (n : IsCounting s c out) (free : commitment c s ≡ None) (final : is_last_end (plan_of c s) c a out s ≡ true) where
  abbrev its : RowEnd
  its = e s c x place a out h o turn g n

  abbrev there : RowEnd
  there = its_end s c x place a out h o turn g n

  abbrev lent : Stepped
  lent = reported s c x place a out h o turn g n

  abbrev known : Attempts
  known = x.call.attempts

  abbrev number : ℕ
  number = a.row.number

  -- it licenses no retry
  not_by : (p : CallPlan) → plan_of c s ≡ p → is_last_end p c a out s ≡ true → is_licensed c number out.code out.pushback (tokens_at_end a out s) s ≡ false
  not_by plan.None same last = ap (λ (q : CallPlan). is_licensed_by q number out.code out.pushback (allows_attempt c (tokens_at_end a out s) s)) same
  not_by (plan.Retry p) same last = not-true (is_licensed c number out.code out.pushback (tokens_at_end a out s) s) last
  not_by (plan.Hedge p) same last = ap (λ (q : CallPlan). is_licensed_by q number out.code out.pushback (allows_attempt c (tokens_at_end a out s) s)) same

  pub not_licensed : is_licensed c number out.code out.pushback (tokens_at_end a out s) s ≡ false
  not_licensed = not_by (plan_of c s) refl final

  -- what the channel judges
  some : 1 ≤ number
  some =
      let no : (is_of c a && (number == 0)) ≡ false = numbered_not (λ (q : Attempt). is_of c q && (q.row.number == 0)) s.attempts place a turn.numbers g.there in
      let not_zero : (number == 0) ≡ false = sym (ap (λ (b : Bool). b && (number == 0)) g.own) ∙ no in
      positive number (eqb-false number 0 not_zero)

  above_same : allows_attempt c its.tokens s ≡ parts.is_above lent.tokens
  above_same =
      ap (reads.is_above (option_map (λ (u : ThrottleRun). u.throttle) (run_of c s))) (tokens_end s c x place a out h o turn g n)
      ∙ above_is (count_then s c x place a out h o turn g n) (run_of c s) ∙ ap parts.is_above (sym (lent_then s c x place a out h o turn g n))

  final_there : (p : RetryPolicy) → plan_of c s ≡ plan.Retry p → retry_after p known number there (parts.is_above lent.tokens) (next_word s) ≡ next.Final
  final_there p same =
      ap (λ (b : Bool). if b then next.Again (retries.retry_due p (from_one (from_one number - known.delayed)) there (next_word s)) else next.Final)
      (ap (λ (k : ℕ). is_licensed_by (plan.Retry p) k out.code out.pushback (parts.is_above lent.tokens)) (max-eq_left some)
      ∙ ap (is_licensed_by (plan.Retry p) number out.code out.pushback) (sym above_same)
      ∙ ap (λ (q : CallPlan). is_licensed_by q number out.code out.pushback (allows_attempt c its.tokens s)) (sym same) ∙ not_licensed)

  abbrev judged_on : CallPlan → Judged
  judged_on q = judged q known number (has_none lent.call.live) there (parts.is_above lent.tokens) (next_word s)

  closes_by : (p : CallPlan) → plan_of c s ≡ p → is_last_end p c a out s ≡ true → ClosesNow (judged_on p) known
  closes_by plan.None same last = record { closes = refl; word = refl; sent = refl; newest = refl; placed = refl; refused = refl }
  closes_by (plan.Retry p) same last = record {
    closes = ap parts.is_final (final_there p same);
    word = ap (λ (f : Next). parts.word_of f out.pushback (next_word s)) (final_there p same);
    sent = refl;
    newest = refl;
    placed = refl;
    refused = refl;
  }
  closes_by (plan.Hedge p) same last = record {
    closes = ap (λ (b : Bool). b || (has_none lent.call.live && parts.is_final (hedging.next_of (hedging.next_due p (parts.hedge_after p known there (parts.is_above lent.tokens)))))) last;
    word = refl;
    sent = refl;
    newest = refl;
    placed = refl;
    refused = refl;
  }

  pub closes_now : ClosesNow (judges s c x place a out h o turn g n) known
  closes_now =
      subst (λ (q : CallPlan). ClosesNow (judged_on q) known) (plan_is s c x h) (closes_by (plan_of c s) refl final)

pub final_ends_close : FinalEndsClose
final_ends_close s c x place a out h o turn g n free final others =
    ends_by_last s c x place a out h o turn g n free (not_licensed s c x place a out h o turn g n free final) (closes_now s c x place a out h o turn g n free final) others
