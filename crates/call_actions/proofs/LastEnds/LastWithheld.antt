-- A hedge is withheld where no attempt of its call goes on, and the channel's call goes on: an end has counted, and the call ends by the last one.
use Rattle.std.proofs.Common.{◌≡◌, ◌+◌, ◌==◌, ◌∷◌, ◌&&◌, ◌||◌, ◌⊎◌, inl, inr, not, ap, refl, subst, sym, ◌∙◌, Bool, true, false, List, [], Option, None, Some, ℕ, if◌then◌else◌, is_none, is_some, length, nat_le, option_and_then, option_map, unwrap_or}
use Rattle.std.proofs.lemmas.Bool.{and_parts, both_ways, or_right}
use Rattle.std.specs.List.{AllByRecursion, cons_option, list_all}
use Rattle.std.specs.Option.{option_map_or, option_or}
use Rattle.std.specs.Prelude.{filter_map}
use Rattle.attempt_ledger.specs.Hedging.{is_hedge}
use Rattle.attempt_ledger.specs.Numbering.{later_kind, most_attempts}
use Rattle.attempt_ledger.specs.declared.ledger.CallEnd.{CallEnd}
use Rattle.attempt_ledger.specs.declared.row.RowKind.TheVariants as kind
use Rattle.call_actions.proofs.Made.{hedges_are_refused}
use Rattle.call_actions.specs.Order.{IsInOrder, Keeps, is_own_mark}
use Rattle.call_actions.specs.Sees.{Sees}
use Rattle.call_core.specs.Going.{IsGoing, IsRunning, hedges}
use Rattle.call_core.specs.Steps as steps
use Rattle.call_core.specs.Steps.{Stepped}
use Rattle.grpc_base.specs.declared.event.EndCause.TheVariants as endcause
use Rattle.grpc_base.specs.declared.plan.CallPlan.{CallPlan}
use Rattle.grpc_base.specs.declared.plan.CallPlan.TheVariants as plan
use Rattle.call_actions.proofs.LastEnds.Withheld.{withheld_hedges_close}
use Rattle.call_actions.specs.LastEnds.Laws.{ClosesByLast, WithheldHedgesEnd}
use Rattle.service_config.specs.Choice.{chosen_for}
use Rattle.session_actions.specs.Attempts.{commitment, is_counted, is_of}
use Rattle.session_actions.specs.CallEnds.{call_ended}
use Rattle.session_actions.specs.Commitments.{call_committed}
use Rattle.session_actions.specs.Configs.{config_of_call, no_choice, plan_of}
use Rattle.session_actions.specs.DueAttempts.{attempts_made, counted_row, due_state, hedge_due, kind_of_next, last_counted, next_due}
use Rattle.session_actions.specs.Entries.{now}
use Rattle.session_actions.specs.Making.{due_action, due_attempt, due_if_past, hedge_withheld}
use Rattle.session_actions.specs.Tokens.{has_tokens}
use Rattle.session_actions.specs.Words.{holds, numbered}
use Rattle.session_actions.specs.declared.action.Action.TheVariants as action
use Rattle.session_actions.specs.declared.attempt.Attempt.{Attempt}
use Rattle.session_actions.specs.declared.call.Call.{Call}
use Rattle.session_actions.specs.declared.call.Mark.{Mark}
use Rattle.session_actions.specs.declared.call.MarkKind.{MarkKind}
use Rattle.session_actions.specs.declared.call.MarkKind.TheVariants as mark
use Rattle.session_actions.specs.declared.config.HeldConfig.{HeldConfig}
use Rattle.session_actions.specs.declared.due.DueState.{DueState}
use Rattle.session_actions.specs.declared.seen.Seen.{Seen}
use Rattle.call_actions.proofs.TakeActions.CutSees.{all_at}

-- what the session's line gives with it
record IsWithheld (s : Seen) (c : Call) : Type 0 where
  is_open : c.end ≡ None
  next : is_some (next_due c s) ≡ true
  hedge : is_hedge (kind_of_next c s) ≡ true

none_of_if : {X : Type 0} (o : Option X) → is_none o ≡ true → o ≡ None
none_of_if None e = refl
none_of_if (Some x) e = absurd (cc)

due_if : (s : Seen) (c : Call) (d : ℕ) (b : Bool)
    → Some (if b then action.HedgeWithheld c.number else action.AttemptMade c.number (attempts_made c s + 1) (kind_of_next c s) d) ≡ Some (action.HedgeWithheld c.number) → b ≡ true
due_if s c d true e = refl
due_if s c d false e = absurd (cc)

due_past : (s : Seen) (c : Call) (d : ℕ) (b : Bool) → (if b then Some (due_attempt c s d) else None) ≡ Some (action.HedgeWithheld c.number) → is_hedge (kind_of_next c s) ≡ true
due_past s c d true e =
    (and_parts (is_hedge (kind_of_next c s)) (not (has_tokens c s)) (due_if s c d (is_hedge (kind_of_next c s) && not (has_tokens c s)) e)).0
due_past s c d false e = absurd (cc)

due_by_moment : (s : Seen) (c : Call) (o : Option ℕ) → option_and_then (due_if_past c s) o ≡ Some (action.HedgeWithheld c.number) → (is_some o ≡ true) × (is_hedge (kind_of_next c s) ≡ true)
due_by_moment s c None e = absurd (cc)
due_by_moment s c (Some d) e = (refl, due_past s c d (nat_le d (now s)) e)

withheld_by : (s : Seen) (c : Call) (b : Bool) → is_none c.end ≡ b → (if b then option_and_then (due_if_past c s) (next_due c s) else None) ≡ Some (action.HedgeWithheld c.number) → IsWithheld s c
withheld_by s c false open_now e = absurd (cc)
withheld_by s c true open_now e =
    let parts : (is_some (next_due c s) ≡ true) × (is_hedge (kind_of_next c s) ≡ true) = due_by_moment s c (next_due c s) e in
    record { is_open = none_of_if c.end open_now; next = parts.0; hedge = parts.1 }

not_stopped : (p : CallPlan) (made : ℕ) (d : DueState) (b : Bool) → d.stopped ≡ b
    → is_some (if b || nat_le (most_attempts p) made then None else option_or d.forced (hedge_due p d)) ≡ true → b ≡ false
not_stopped p made d false e some = refl
not_stopped p made d true e some = absurd (cc)

none_of : {X : Type 0} (o : Option X) → is_some o ≡ false → o ≡ None
none_of None e = refl
none_of (Some x) e = absurd (cc)

-- a hedge is no first attempt, and of a call that has a config
hedge_kind : (p : CallPlan) (b : Bool) → is_hedge (unwrap_or (if b then Some kind.First else later_kind p) kind.First) ≡ true → (b ≡ false) × (hedges p ≡ true)
hedge_kind plan.None true e = absurd (cc)
hedge_kind plan.None false e = absurd (cc)
hedge_kind (plan.Retry p) true e = absurd (cc)
hedge_kind (plan.Retry p) false e = absurd (cc)
hedge_kind (plan.Hedge p) true e = absurd (cc)
hedge_kind (plan.Hedge p) false e = (refl, refl)

config_there : (path : List ℕ) (o : Option HeldConfig) → hedges (option_map_or (λ (h : HeldConfig). chosen_for h.config path) o no_choice).plan ≡ true
    → is_some (option_map (λ (h : HeldConfig). chosen_for h.config path) o) ≡ true
config_there path None e = absurd (cc)
config_there path (Some h) e = refl

-- what the marks of ends name
gives_one : (P : ℕ → Type 0) (o : Option ℕ) (l : List ℕ) → ((p : ℕ) → o ≡ Some p → P p) → AllByRecursion P l → AllByRecursion P (cons_option o l)
gives_one P None l each rest = rest
gives_one P (Some p) l each rest = (each p refl, rest)

gives_all : (P : ℕ → Type 0) (f : Mark → Option ℕ) (good : Mark → Bool) → ((m : Mark) → good m ≡ true → (p : ℕ) → f m ≡ Some p → P p) → (marks : List Mark)
    → list_all good marks ≡ true → AllByRecursion P (filter_map f marks)
gives_all P f good each [] e = tt
gives_all P f good each (m ∷ marks) e =
    let both : (good m ≡ true) × (list_all good marks ≡ true) = and_parts (good m) (list_all good marks) e in
    gives_one P (f m) (filter_map f marks) (each m both.0) (gives_all P f good each marks both.1)

record Found (s : Seen) (c : Call) (place : ℕ) : Type 0 where
  a : Attempt
  there : numbered s.attempts place ≡ Some a
  mine : is_of c a ≡ true

found_by : (s : Seen) (c : Call) (row : ℕ) (o : Option Attempt) → numbered s.attempts row ≡ o → holds (λ (a : Attempt). is_of c a && is_some a.row.ended) o ≡ true → Found s c row
found_by s c row None e own = absurd (cc)
found_by s c row (Some a) e own = record { a = a; there = e; mine = (and_parts (is_of c a) (is_some a.row.ended) own).0 }

row_if : (row p : ℕ) (b : Bool) → (if b then Some row else None) ≡ Some p → row ≡ p
row_if row p true e = (cc)
row_if row p false e = absurd (cc)

found_of : (s : Seen) (c : Call) (w : MarkKind) → is_own_mark s c w ≡ true → (p : ℕ) → counted_row s w ≡ Some p → Found s c p
found_of s c mark.Configured own p e = absurd (cc)
found_of s c (mark.Made row) own p e = absurd (cc)
found_of s c (mark.Placed row) own p e = absurd (cc)
found_of s c (mark.Ended row) own p e =
    subst (Found s c) (row_if row p (holds (λ (a : Attempt). is_counted a s) (numbered s.attempts row)) e) (found_by s c row (numbered s.attempts row) refl own)
found_of s c mark.Withheld own p e = absurd (cc)
found_of s c mark.Committed own p e = absurd (cc)
found_of s c mark.Closed own p e = absurd (cc)

module _ (s : Seen) (c : Call) (x : Stepped) (h : Sees s c x) (o : IsInOrder s c) (going : IsGoing x.call) (none : x.call.live ≡ [])
    (withheld : due_action s c ≡ Some (action.HedgeWithheld c.number)) where
  w : IsWithheld s c
  w = withheld_by s c (is_none c.end) refl withheld

  runs_on : (due_state c s).stopped ≡ false
  runs_on = not_stopped (plan_of c s) (attempts_made c s) (due_state c s) (due_state c s).stopped refl w.next

  free_by : (b : Bool) → is_some (commitment c s) ≡ b → b ≡ false
  free_by false e = refl
  free_by true e =
      let both : true ≡ false = sym (o.stops (ap (λ (b : Bool). is_some c.end || b) e ∙ or_right (is_some c.end) true refl)) ∙ runs_on in absurd (cc)

  free : commitment c s ≡ None
  free = none_of (commitment c s) (free_by (is_some (commitment c s)) refl)

  kind_is : ((attempts_made c s + 1 == 1) ≡ false) × (hedges (plan_of c s) ≡ true)
  kind_is = hedge_kind (plan_of c s) (attempts_made c s + 1 == 1) w.hedge

  running : IsRunning x.call
  running = record {
    ended = sym h.ended ∙ ap (option_map (λ (q : CallEnd). q.cause)) w.is_open;
    configured = ap (λ (q : Option _). is_some q) (sym h.chosen) ∙ config_there c.request.path (config_of_call c s) kind_is.1;
  }

  made_some : x.call.attempts.sent ≡ 0 → ⊥
  made_some e = both_ways (attempts_made c s + 1 == 1) kind_is.0 (ap (λ (n : ℕ). n + 1 == 1) (h.attempts.sent ∙ e))

  last_by : (x.call.attempts.sent ≡ 0) ⊎ (is_some x.call.attempts.last ≡ true) → is_some x.call.attempts.last ≡ true
  last_by (inl e) = absurd (made_some e)
  last_by (inr e) = e

  last_same : last_counted c s ≡ x.call.attempts.last
  last_same = h.attempts.last (sym h.attempts.committed ∙ ap (option_map (λ (q : Attempt). q.place)) free)

  found : (place : ℕ) → last_counted c s ≡ Some place → Found s c place
  found place e =
      all_at (Found s c) (filter_map (λ (m : Mark). counted_row s m.what) c.marks) (length (filter_map (λ (m : Mark). counted_row s m.what) c.marks)) place
      (gives_all (Found s c) (λ (m : Mark). counted_row s m.what) (λ (m : Mark). is_own_mark s c m.what) (λ m own p e. found_of s c m.what own p e) c.marks o.marks) e

  closes_by : (q : Option ℕ) → last_counted c s ≡ q → is_some q ≡ true → ClosesByLast s c (steps.made_due (now s) x)
  closes_by None e some = absurd (cc)
  closes_by (Some place) e some =
      let f : Found s c place = found place e in
      record {
        place = place;
        last = e;
        closes = subst (λ (y : Stepped). Keeps (call_ended c.number endcause.Row (call_committed place (hedge_withheld c.number s))) c.number y)
            (sym (hedges_are_refused s c x h withheld)) (withheld_hedges_close s c x place f.a h o w.is_open free none e f.there f.mine);
      }

  pub closes_by_last : ClosesByLast s c (steps.made_due (now s) x)
  closes_by_last = closes_by (last_counted c s) refl (ap (λ (q : Option ℕ). is_some q) last_same ∙ last_by (going.last running none))

pub withheld_hedges_end : WithheldHedgesEnd
withheld_hedges_end s c x h o going none withheld = closes_by_last s c x h o going none withheld
