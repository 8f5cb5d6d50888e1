-- The last attempt of a hedged call ends, with a code of its policy, and no further attempt is due: the call ends by it.
use Rattle.std.proofs.Common.{◌≡◌, ◌≤◌, ◌∷◌, nat_le, nat_lt, ◌++◌, ◌&&◌, ◌||◌, ◌==◌, not, ap, arith, refl, subst, sym, ◌∙◌, Bool, true, false, List, [], Option, None, Some, ℕ, zero, suc, if◌then◌else◌, map}
use Rattle.std.proofs.Math.Nat.{max-eq_left}
use Rattle.std.proofs.lemmas.Bool.{eqb-false, ltb-false, or_right}
use Rattle.std.specs.List.{list_any}
use Rattle.std.specs.Option.{option_map_or, option_or}
use Rattle.std.specs.Prelude.{option_and_then}
use Rattle.attempt_ledger.specs.declared.row.RowEnd.{RowEnd}
use Rattle.call_actions.proofs.Ends.Frames as ending
use Rattle.call_actions.proofs.Ends.Frames.{ended_by, with_end_at}
use Rattle.call_actions.proofs.Ends.Rows as endrows
use Rattle.call_actions.proofs.Ending.{after, d, e, ends, is_ended, its_end, rest_is, runs, t, reported}
use Rattle.call_actions.proofs.Hedged as hedged
use Rattle.call_actions.proofs.Lists.{changed_here, filter_none, numbered_not}
use Rattle.call_actions.specs.Laws.{IsCounting, IsEnding, LastHedgesClose, news_of}
use Rattle.call_actions.specs.Order.{IsInOrder, IsInTurn, Keeps, is_beyond}
use Rattle.call_actions.specs.Sees.{DuesAgree, Sees, is_live, live_row}
use Rattle.call_core.specs.Parts as parts
use Rattle.call_core.specs.Parts.{committed_attempts, from_one, has_none, judged, lasted_attempts, retry_after, stopped_attempts, without}
use Rattle.call_core.specs.Steps as steps
use Rattle.call_core.specs.Steps.{Stepped, closed_if}
use Rattle.call_core.specs.declared.attempts.Attempts.{Attempts}
use Rattle.call_core.specs.declared.judge.Judged.{Judged}
use Rattle.call_core.specs.declared.live.LiveRow.{LiveRow}
use Rattle.grpc_base.specs.Codes.{has_code}
use Rattle.grpc_base.specs.declared.event.EndCause.TheVariants as endcause
use Rattle.grpc_base.specs.declared.plan.CallPlan.{CallPlan}
use Rattle.grpc_base.specs.declared.plan.CallPlan.TheVariants as plan
use Rattle.grpc_base.specs.declared.plan.HedgePolicy.{HedgePolicy}
use Rattle.hedge_core.specs.DueMoments as hedging
use Rattle.session_actions.specs.AttemptEnds.{attempt_ended, end_of, tokens_at_end}
use Rattle.session_actions.specs.Attempts.{commitment, is_of}
use Rattle.session_actions.specs.CallEnds.{call_ended}
use Rattle.session_actions.specs.Commitments.{call_committed}
use Rattle.session_actions.specs.Configs.{plan_of}
use Rattle.session_actions.specs.DueAttempts.{attempts_made, due_by, due_state, hedge_due, is_licensed, is_licensed_by, next_due}
use Rattle.session_actions.specs.Entries.{next_word, now}
use Rattle.session_actions.specs.Tokens.{allows_attempt}
use Rattle.session_actions.specs.Words.{numbered}
use Rattle.session_actions.specs.declared.attempt.Attempt.{Attempt}
use Rattle.session_actions.specs.declared.call.Call.{Call}
use Rattle.session_actions.specs.declared.due.DueState.{DueState}
use Rattle.session_actions.specs.declared.response.Outcome.{Outcome}
use Rattle.session_actions.specs.declared.seen.Seen.{Seen}
use Rattle.call_actions.proofs.Final.{ClosesNow, ends_by_last}

positive : (k : ℕ) → (k ≡ 0 → ⊥) → 1 ≤ k
positive zero off = absurd (off refl)
positive (suc k) off = omega arith

-- the end of a hedged call's last attempt, with a code of its policy, where no further one is due
over_by : (over most none : Bool) (before : Bool) (due after : Option ℕ) (moment : ℕ) → before ≡ over → (over ≡ false → due ≡ Some moment)
    → (if before || most then None else option_or due after) ≡ None → parts.is_final (hedging.next_of (if over || none || most then None else Some moment)) ≡ true
over_by true most none before due after moment same forced e = refl
over_by false true true before due after moment same forced e = refl
over_by false true false before due after moment same forced e = refl
over_by false false true before due after moment same forced e = refl
over_by false false false before due after moment same forced e =
    let set : option_or due after ≡ None = sym (ap (λ (b : Bool). if b || false then None else option_or due after) same) ∙ e in
    let both : Some moment ≡ None = sym (ap (λ (o : Option ℕ). option_or o after) (forced refl)) ∙ set in absurd (cc)

module _ (s : Seen) (c : Call) (x : Stepped) (place : ℕ) (a : Attempt) (out : Outcome) (h : Sees s c x) (o : IsInOrder s c) (turn : IsInTurn s c)
    (g : IsEnding s c place a out) (n : IsCounting s c out) (free : commitment c s ≡ None) (p : HedgePolicy)
    (hp : plan_of c s ≡ plan.Hedge p) (says : has_code p.codes out.code ≡ true)
    (none_due : option_and_then (λ (k : Call). next_due k (attempt_ended place (end_of a out s) s)) (numbered (attempt_ended place (end_of a out s) s).calls c.number) ≡ None)
    (others : list_any (λ (q : Attempt). is_live s c q && not (q.place == place)) s.attempts ≡ false) where
  abbrev its : RowEnd
  its = e s c x place a out h o turn g n

  abbrev there : RowEnd
  there = its_end s c x place a out h o turn g n

  abbrev lent : Stepped
  lent = reported s c x place a out h o turn g n

  abbrev known : Attempts
  known = x.call.attempts

  abbrev number : ℕ
  number = a.row.number

  abbrev then_seen : Seen
  then_seen = t s c x place a out h o turn g n

  abbrev then_call : Call
  then_call = d s c x place a out h o turn g n

  abbrev judge : Judged
  judge = hedged.by_plan s c x place a out p h o turn g n free hp says

  not_licensed : is_licensed c number out.code out.pushback (tokens_at_end a out s) s ≡ false
  not_licensed = ap (λ (q : CallPlan). is_licensed_by q number out.code out.pushback (allows_attempt c (tokens_at_end a out s) s)) hp

  some_sent : 1 ≤ known.sent
  some_sent =
      let no : (is_of c a && (number == 0)) ≡ false = numbered_not (λ (q : Attempt). is_of c q && (q.row.number == 0)) s.attempts place a turn.numbers g.there in
      let not_zero : (number == 0) ≡ false = sym (ap (λ (b : Bool). b && (number == 0)) g.own) ∙ no in
      let one : 1 ≤ number = positive number (eqb-false number 0 not_zero) in
      let low : (is_of c a && nat_lt (attempts_made c s) number) ≡ false = numbered_not (is_beyond s c) s.attempts place a o.numbers g.there in
      let most : number ≤ attempts_made c s = ltb-false (attempts_made c s) number (sym (ap (λ (b : Bool). b && nat_lt (attempts_made c s) number) g.own) ∙ low) in
      let sent : attempts_made c s ≡ known.sent = h.attempts.sent in omega arith

  due_none : next_due then_call then_seen ≡ None
  due_none =
      sym (ap (option_and_then (λ (k : Call). next_due k then_seen)) (changed_here (λ (q : Call). record q { marks = q.marks ++ endrows.w s c x place a its (runs s c x place a out h o turn g n) h o (ends s c x place a out h o turn g n) g.own ∷ [] }) c.number s.calls c h.own))
      ∙ ap (λ (z : Seen). option_and_then (λ (k : Call). next_due k z) (numbered z.calls c.number)) (sym (is_ended s c x place a out h o turn g n)) ∙ none_due

  abbrev later : DueState
  later = due_state then_call then_seen

  due_by_plan_none : (if later.stopped || nat_le p.max (from_one known.sent) then None else option_or later.forced (hedge_due (plan.Hedge p) later)) ≡ None
  due_by_plan_none =
      ap (λ (k : ℕ). if later.stopped || nat_le p.max k then None else option_or later.forced (hedge_due (plan.Hedge p) later))
      (max-eq_left some_sent ∙ sym h.attempts.sent ∙ sym (ending.made_same s c place a its (runs s c x place a out h o turn g n) (ends s c x place a out h o turn g n)))
      ∙ sym (ap (λ (q : CallPlan). due_by q (attempts_made then_call then_seen) later) hp) ∙ due_none

  none_left : lent.call.live ≡ []
  none_left =
      sym (rest_is s c x place a out h o turn g n)
      ∙ ap (map live_row)
      (filter_none (λ (q : Attempt). is_live s c q && not (q.place == place)) (λ (q : Attempt). is_live s c q && not (q.place == place)) (λ q z. z) s.attempts others)

  abbrev moment : ℕ
  moment = hedging.forced_by there

  forced_is : judge.attempts.forced ≡ Some moment
  forced_is = ap (λ (b : Bool). if b then Some moment else known.forced) says

  due_judged : DuesAgree later judge.attempts
  due_judged = hedged.due_now s c x place a out p h o turn g n free hp says

  final_by : parts.is_final (hedging.next_of (hedging.next_due p (parts.hedge_after p known there (parts.is_above lent.tokens)))) ≡ true
  final_by =
      ap (λ (b : Bool). parts.is_final (hedging.next_of (if (known.stopped || hedging.stops p there (parts.is_above lent.tokens)) || (from_one known.sent == 0) || nat_le p.max (from_one known.sent)
      then None else option_map_or (λ (k : ℕ). Some k) (if b then Some moment else known.forced) None))) says
      ∙ over_by (known.stopped || hedging.stops p there (parts.is_above lent.tokens)) (nat_le p.max (from_one known.sent)) (from_one known.sent == 0) later.stopped later.forced
      (hedge_due (plan.Hedge p) later) moment due_judged.stopped (λ going. due_judged.forced going ∙ forced_is) due_by_plan_none

  closes_judged : ClosesNow judge known
  closes_judged = record {
    closes = ap (λ (l : List LiveRow). not (has_code p.codes out.code) || (has_none l && parts.is_final (hedging.next_of (hedging.next_due p (parts.hedge_after p known there (parts.is_above lent.tokens)))))) none_left
        ∙ ap (λ (b : Bool). not (has_code p.codes out.code) || b) final_by ∙ or_right (not (has_code p.codes out.code)) true refl;
    word = refl;
    sent = refl;
    newest = refl;
    placed = refl;
    refused = refl;
  }

  pub last_hedge_ends : Keeps (call_ended c.number endcause.Row (call_committed place (attempt_ended place its s))) c.number
      (steps.ended_at place (news_of a out s) (now s) (next_word s) x)
  last_hedge_ends =
      ends_by_last s c x place a out h o turn g n free not_licensed
      (subst (λ (j : Judged). ClosesNow j known) (sym (hedged.judged_is s c x place a out p h o turn g n free hp says)) closes_judged) others

pub last_hedges_close : LastHedgesClose
last_hedges_close s c x place a out p h o turn g n free hp says none_due others =
    last_hedge_ends s c x place a out h o turn g n free p hp says none_due others
