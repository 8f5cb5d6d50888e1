-- An attempt of a hedged call ends, with a code of its policy, and a further one is due: the call goes on, whether another attempt does or not.
use Rattle.attempt_ledger.specs.Ends.{delay_of}
use Rattle.attempt_ledger.specs.declared.row.RowEnd.{RowEnd}
use Rattle.call_actions.proofs.Ends.Frames as ending
use Rattle.call_actions.proofs.Ends.Rows as endrows
use Rattle.call_actions.proofs.Ending.{KeepsRest, after, channel_is, d, e, ends, is_ended, its_call, its_end, like_then, order_then, runs, sees_then, t, reported}
use Rattle.call_actions.proofs.Hedged as hedged
use Rattle.call_actions.proofs.Lists.{changed_here, numbered_not}
use Rattle.call_actions.specs.Laws.{IsCounting, IsEnding, ends_alike, news_of}
use Rattle.call_actions.specs.Order.{IsInOrder, IsInTurn, Keeps, is_beyond}
use Rattle.call_actions.specs.Sees.{DuesAgree, KeepsDelay, Sees}
use Rattle.call_core.specs.Parts as parts
use Rattle.call_core.specs.Parts.{has_none, hedge_after, from_one}
use Rattle.call_core.specs.Steps as steps
use Rattle.call_core.specs.Steps.{Stepped, closed_if}
use Rattle.call_core.specs.declared.attempts.Attempts.{Attempts}
use Rattle.call_core.specs.declared.judge.Judged.{Judged}
use Rattle.grpc_base.specs.Codes.{has_code}
use Rattle.grpc_base.specs.declared.plan.CallPlan.TheVariants as plan
use Rattle.grpc_base.specs.declared.plan.CallPlan.{CallPlan}
use Rattle.grpc_base.specs.declared.plan.HedgePolicy.{HedgePolicy}
use Rattle.hedge_core.specs.DueMoments as hedging
use Rattle.call_actions.specs.LastEnds.Laws.{DueHedgesGoOn}
use Rattle.service_config.specs.Choice.{chosen_for}
use Rattle.session_actions.specs.AttemptEnds.{is_drawing, tokens_at, will_count, attempt_ended, end_of}
use Rattle.session_actions.specs.Attempts.{commitment, of_its_call, is_of}
use Rattle.session_actions.specs.Configs.{no_choice, plan_of}
use Rattle.session_actions.specs.DueAttempts.{due_state, is_licensed, is_licensed_by, attempts_made, due_by, hedge_due, next_due}
use Rattle.session_actions.specs.Entries.{next_word, now}
use Rattle.session_actions.specs.Tokens.{allows_attempt}
use Rattle.session_actions.specs.Words.{holds, numbered}
use Rattle.session_actions.specs.declared.attempt.Attempt.{Attempt}
use Rattle.session_actions.specs.declared.call.Call.{Call}
use Rattle.session_actions.specs.declared.config.HeldConfig.{HeldConfig}
use Rattle.session_actions.specs.declared.due.DueState.{DueState}
use Rattle.session_actions.specs.declared.response.Outcome.{Outcome}
use Rattle.session_actions.specs.declared.seen.Seen.{Seen}
use Rattle.std.proofs.Common.{◌≡◌, ◌∷◌, ◌&&◌, ◌||◌, ◌==◌, not, ap, arith, refl, subst, sym, ◌∙◌, Bool, true, false, [], Option, None, Some, ℕ, if◌then◌else◌, is_none, ◌≤◌, nat_le, nat_lt, ◌++◌, zero, suc, is_some}
use Rattle.std.proofs.Math.Nat.{max-eq_left}
use Rattle.std.proofs.lemmas.Bool.{and_right, ne_eqb, eqb-false, ltb-false}
use Rattle.std.specs.Option.{option_map_or, option_or}
use Rattle.std.specs.Prelude.{option_and_then}

positive : (k : ℕ) → (k ≡ 0 → ⊥) → 1 ≤ k
positive zero off = absurd (off refl)
positive (suc k) off = omega arith

-- where an attempt is due in the session, the channel has a next one
goes_by : (over most none : Bool) (before : Bool) (due after : Option ℕ) (moment : ℕ) → before ≡ over → none ≡ false
    → is_some (if before || most then None else option_or due after) ≡ true → parts.is_final (hedging.next_of (if over || none || most then None else Some moment)) ≡ false
goes_by true most none before due after moment same zero_sent e =
    let off : false ≡ true = sym (ap (λ (b : Bool). is_some (if b || most then None else option_or due after)) same) ∙ e in absurd (cc)
goes_by false true none before due after moment same zero_sent e =
    let off : false ≡ true = sym (ap (λ (b : Bool). is_some (if b || true then None else option_or due after)) same) ∙ e in absurd (cc)
goes_by false false true before due after moment same zero_sent e = absurd (cc)
goes_by false false false before due after moment same zero_sent e = refl

and_no : (b : Bool) → (b && false) ≡ false
and_no true = refl
and_no false = refl

no_plan : (p : HedgePolicy) → plan.None ≡ plan.Hedge p → ⊥
no_plan p e = absurd (cc)

module _ (s : Seen) (c : Call) (x : Stepped) (place : ℕ) (a : Attempt) (out : Outcome) (p : HedgePolicy) (h : Sees s c x) (o : IsInOrder s c) (turn : IsInTurn s c)
    (g : IsEnding s c place a out) (n : IsCounting s c out) (free : commitment c s ≡ None) (hp : plan_of c s ≡ plan.Hedge p) (says : has_code p.codes out.code ≡ true)
    (more : is_some (option_and_then (λ (k : Call). next_due k (attempt_ended place (end_of a out s) s)) (numbered (attempt_ended place (end_of a out s) s).calls c.number)) ≡ true) where
  abbrev its : RowEnd
  its = e s c x place a out h o turn g n

  abbrev there : RowEnd
  there = its_end s c x place a out h o turn g n

  abbrev lent : Stepped
  lent = reported s c x place a out h o turn g n

  abbrev known : Attempts
  known = x.call.attempts

  abbrev number : ℕ
  number = a.row.number

  abbrev then_seen : Seen
  then_seen = t s c x place a out h o turn g n

  abbrev then_call : Call
  then_call = d s c x place a out h o turn g n

  abbrev judge : Judged
  judge = hedged.by_plan s c x place a out p h o turn g n free hp says

  some_sent : 1 ≤ known.sent
  some_sent =
      let no : (is_of c a && (number == 0)) ≡ false = numbered_not (λ (q : Attempt). is_of c q && (q.row.number == 0)) s.attempts place a turn.numbers g.there in
      let not_zero : (number == 0) ≡ false = sym (ap (λ (b : Bool). b && (number == 0)) g.own) ∙ no in
      let one : 1 ≤ number = positive number (eqb-false number 0 not_zero) in
      let low : (is_of c a && nat_lt (attempts_made c s) number) ≡ false = numbered_not (is_beyond s c) s.attempts place a o.numbers g.there in
      let most : number ≤ attempts_made c s = ltb-false (attempts_made c s) number (sym (ap (λ (b : Bool). b && nat_lt (attempts_made c s) number) g.own) ∙ low) in
      let sent : attempts_made c s ≡ known.sent = h.attempts.sent in omega arith

  due_some : is_some (next_due then_call then_seen) ≡ true
  due_some =
      ap (λ (k : Option ℕ). is_some k)
      (sym (ap (option_and_then (λ (k : Call). next_due k then_seen)) (changed_here (λ (q : Call). record q { marks = q.marks ++ endrows.w s c x place a its (runs s c x place a out h o turn g n) h o (ends s c x place a out h o turn g n) g.own ∷ [] }) c.number s.calls c h.own))
      ∙ ap (λ (z : Seen). option_and_then (λ (k : Call). next_due k z) (numbered z.calls c.number)) (sym (is_ended s c x place a out h o turn g n))) ∙ more

  abbrev later : DueState
  later = due_state then_call then_seen

  due_by_plan_some : is_some (if later.stopped || nat_le p.max (from_one known.sent) then None else option_or later.forced (hedge_due (plan.Hedge p) later)) ≡ true
  due_by_plan_some =
      ap (λ (k : ℕ). is_some (if later.stopped || nat_le p.max k then None else option_or later.forced (hedge_due (plan.Hedge p) later)))
      (max-eq_left some_sent ∙ sym h.attempts.sent ∙ sym (ending.made_same s c place a its (runs s c x place a out h o turn g n) (ends s c x place a out h o turn g n)))
      ∙ sym (ap (λ (q : CallPlan). is_some (due_by q (attempts_made then_call then_seen) later)) hp) ∙ due_some

  due_judged : DuesAgree later judge.attempts
  due_judged = hedged.due_now s c x place a out p h o turn g n free hp says

  sent_some : (from_one known.sent == 0) ≡ false
  sent_some = ap (λ (k : ℕ). k == 0) (max-eq_left some_sent) ∙ ne_eqb known.sent 0 (λ zero_sent. (let one : 1 ≤ known.sent = some_sent in omega arith))

  abbrev fate : Bool
  fate = parts.is_final (hedging.next_of (hedging.next_due p (hedge_after p known there (parts.is_above lent.tokens))))

  final_not : fate ≡ false
  final_not =
      ap (λ (b : Bool). parts.is_final (hedging.next_of (if (known.stopped || hedging.stops p there (parts.is_above lent.tokens)) || (from_one known.sent == 0) || nat_le p.max (from_one known.sent)
      then None else option_map_or (λ (k : ℕ). Some k) (if b then Some (hedging.forced_by there) else known.forced) None))) says
      ∙ goes_by (known.stopped || hedging.stops p there (parts.is_above lent.tokens)) (nat_le p.max (from_one known.sent)) (from_one known.sent == 0) later.stopped later.forced
      (hedge_due (plan.Hedge p) later) (hedging.forced_by there) due_judged.stopped sent_some due_by_plan_some

  -- the call goes on
  stays : steps.ended_at place (news_of a out s) (now s) (next_word s) x ≡ after s c x place a out h o turn g n
  stays =
      channel_is s c x place a out h o turn g n free
      ∙ ap (λ (j : Judged). closed_if j.closes a.place (now s) (after s c x place a out h o turn g n)) (hedged.judged_is s c x place a out p h o turn g n free hp says)
      ∙ ap (λ (b : Bool). closed_if (not b || (has_none lent.call.live && fate)) a.place (now s) (after s c x place a out h o turn g n)) says
      ∙ ap (λ (b : Bool). closed_if (has_none lent.call.live && b) a.place (now s) (after s c x place a out h o turn g n)) final_not
      ∙ ap (λ (b : Bool). closed_if b a.place (now s) (after s c x place a out h o turn g n)) (and_no (has_none lent.call.live))

  drawing : of_its_call (is_drawing a out s) a s ≡ false
  drawing =
      ap (holds (is_drawing a out s)) (its_call s c x place a out h o turn g n)
      ∙ and_right (will_count a out s && is_none (commitment c s) && is_none (delay_of out.pushback)) (is_licensed c a.row.number out.code out.pushback (tokens_at a out s c) s)
      (ap (λ (q : CallPlan). is_licensed_by q a.row.number out.code out.pushback (allows_attempt c (tokens_at a out s c) s)) hp)

  word_same : its.word ≡ None
  word_same = ap (λ (b : Bool). if b then Some (next_word s) else None) drawing

  keeps_not : (config : Option ℕ) → c.config ≡ config → KeepsDelay config (plan_of c s) → ⊥
  keeps_not None none keeps =
      no_plan p
      (sym (ap (λ (k : Option ℕ). (option_map_or (λ (q : HeldConfig). chosen_for q.config c.request.path) (option_and_then (numbered s.configs) k) no_choice).plan) none) ∙ hp)
  keeps_not (Some config) some keeps = subst (λ (q : CallPlan). KeepsDelay (Some config) q) hp keeps

  kept : KeepsRest judge.attempts known
  kept = record { sent = refl; newest = refl; placed = refl; refused = refl; committed = refl }

  sees_now : Sees then_seen then_call (after s c x place a out h o turn g n)
  sees_now =
      sees_then s c x place a out h o turn g n (subst (λ (j : Judged). KeepsRest j.attempts known) (sym (hedged.judged_is s c x place a out p h o turn g n free hp says)) kept)
      (subst (λ (j : Judged). DuesAgree later j.attempts) (sym (hedged.judged_is s c x place a out p h o turn g n free hp says)) due_judged)
      (λ keeps. absurd (keeps_not c.config refl keeps))
      (word_same ∙ ap (λ (j : Judged). j.word) (sym (hedged.judged_is s c x place a out p h o turn g n free hp says)))

  pub due_hedge_goes_on : ends_alike s c x place a out
  due_hedge_goes_on =
      subst (λ (z : Seen). Keeps z c.number (steps.ended_at place (news_of a out s) (now s) (next_word s) x)) (sym (is_ended s c x place a out h o turn g n))
      (subst (λ (y : Stepped). Keeps then_seen c.number y) (sym stays)
      (record {
        call = then_call;
        number_is = refl;
        sees = sees_now;
        order = order_then s c x place a out h o turn g n free
            (due_judged.newest ∙ sym ((like_then s c x place a out h o turn g n).newest ∙ h.attempts.due.newest));
      }))

pub due_hedges_go_on : DueHedgesGoOn
due_hedges_go_on s c x place a out p h o turn g n free hp says more = due_hedge_goes_on s c x place a out p h o turn g n free hp says more
