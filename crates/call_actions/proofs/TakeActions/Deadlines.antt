-- The deadline of a call comes at one moment in session and channel.
use Rattle.std.proofs.Common.{◌≡◌, ◌+◌, ◌&&◌, not, ap, refl, subst, sym, ◌∙◌, Bool, true, false, List, Option, None, Some, ℕ, if◌then◌else◌, is_none, is_some, nat_le}
use Rattle.std.proofs.lemmas.Bool.{and_parts}
use Rattle.std.specs.Option.{option_map, option_map_or}
use Rattle.attempt_ledger.specs.declared.ledger.CallEnd.{CallEnd}
use Rattle.call_core.specs.Parts as parts
use Rattle.call_core.specs.Parts.{config_timeout}
use Rattle.call_core.specs.Steps as steps
use Rattle.call_core.specs.Steps.{Stepped, closed_by, ended_as, timed_out, timed_out_if}
use Rattle.grpc_base.specs.Requests.{RequestSeen}
use Rattle.grpc_base.specs.declared.event.EndCause.{EndCause}
use Rattle.grpc_base.specs.declared.event.EndCause.TheVariants as ending
use Rattle.grpc_base.specs.declared.plan.Chosen.{Chosen}
use Rattle.service_config.specs.Choice.{chosen_for}
use Rattle.session_actions.specs.CallEnds.{is_past_deadline}
use Rattle.session_actions.specs.Configs.{config_of_call, deadline, no_choice}
use Rattle.session_actions.specs.Entries.{now}
use Rattle.session_actions.specs.Words.{holds, sooner}
use Rattle.session_actions.specs.declared.call.Call.{Call}
use Rattle.session_actions.specs.declared.config.HeldConfig.{HeldConfig}
use Rattle.session_actions.specs.declared.seen.Seen.{Seen}
use Rattle.call_actions.proofs.TakeActions.Ends.{ends_cut_attempts}
use Rattle.call_actions.specs.TakeActions.Laws.{DeadlinesEnd, DeadlinesWait, IsEnded}
use Rattle.call_actions.specs.TakeActions.Serves.{Serves}

pub sooner_is : (a b : Option ℕ) → sooner a b ≡ parts.sooner a b
sooner_is None b = refl
sooner_is (Some m) None = refl
sooner_is (Some m) (Some n) = refl

pub timeout_is : (path : List ℕ) (o : Option HeldConfig)
    → (option_map_or (λ (h : HeldConfig). chosen_for h.config path) o no_choice).timeout ≡ config_timeout (option_map (λ (h : HeldConfig). chosen_for h.config path) o)
timeout_is path None = refl
timeout_is path (Some h) = refl

pub some_by : (o : Option CallEnd) → is_some (option_map (λ (e : CallEnd). e.cause) o) ≡ is_some o
some_by None = refl
some_by (Some e) = refl

pub none_by : (o : Option CallEnd) → is_none o ≡ true → o ≡ None
none_by None e = refl
none_by (Some e) f = absurd (cc)

module _ (s : Seen) (c : Call) (x : Stepped) (h : Serves s c x) where
  pub deadline_is : deadline c s ≡ steps.deadline_at x.call
  deadline_is =
      ap (λ (o : Option ℕ). option_map (λ (t : ℕ). c.begun_at + t) (sooner c.request.timeout o)) (timeout_is c.request.path (config_of_call c s))
      ∙ ap (λ (o : Option Chosen). option_map (λ (t : ℕ). c.begun_at + t) (sooner c.request.timeout (config_timeout o))) h.sees.chosen
      ∙ ap (option_map (λ (t : ℕ). c.begun_at + t)) (sooner_is c.request.timeout (config_timeout x.call.chosen))
      ∙ ap (λ (t : Option ℕ). option_map (λ (n : ℕ). c.begun_at + n) (parts.sooner t (config_timeout x.call.chosen))) (ap (λ (r : RequestSeen). r.timeout) h.sees.request)
      ∙ ap (λ (m : ℕ). option_map (λ (t : ℕ). m + t) (parts.sooner x.call.request.timeout (config_timeout x.call.chosen))) h.sees.begun

  pub past_by : (o : Option ℕ) → holds (λ (t : ℕ). nat_le t (now s)) o ≡ true → timed_out_if o (now s) x ≡ closed_by ending.Deadline (now s) x
  past_by None e = absurd (cc)
  past_by (Some t) e = ap (λ (b : Bool). if b then closed_by ending.Deadline (now s) x else x) e

  pub wait_by : (o : Option ℕ) → holds (λ (t : ℕ). nat_le t (now s)) o ≡ false → timed_out_if o (now s) x ≡ x
  wait_by None e = refl
  wait_by (Some t) e = ap (λ (b : Bool). if b then closed_by ending.Deadline (now s) x else x) e

  -- a call that ended stays so
  pub closed_still : (b : Bool) → is_some x.call.ended ≡ b → b ≡ true → closed_by ending.Deadline (now s) x ≡ x
  closed_still true e f = ap (λ (b : Bool). if not b then ended_as ending.Deadline (now s) x else x) e
  closed_still false e f = absurd (cc)

  pub if_same : (b : Bool) → closed_by ending.Deadline (now s) x ≡ x → (if b then closed_by ending.Deadline (now s) x else x) ≡ x
  if_same true e = e
  if_same false e = refl

  pub ended_by : (o : Option ℕ) → is_some x.call.ended ≡ true → timed_out_if o (now s) x ≡ x
  ended_by None e = refl
  ended_by (Some t) e = if_same (nat_le t (now s)) (closed_still true e refl)

  pub over_is : is_some x.call.ended ≡ is_some c.end
  over_is = ap (λ (o : Option EndCause). is_some o) (sym h.sees.ended) ∙ some_by c.end

  -- it ends
  pub ends : is_some s.current ≡ true → is_past_deadline s c ≡ true → IsEnded s c ending.Deadline (timed_out (now s) x)
  ends opened past =
      let both : (is_none c.end ≡ true) × (holds (λ (t : ℕ). nat_le t (now s)) (deadline c s) ≡ true)
      = and_parts (is_none c.end) (holds (λ (t : ℕ). nat_le t (now s)) (deadline c s)) past in
      let step : timed_out (now s) x ≡ closed_by ending.Deadline (now s) x
      = past_by (steps.deadline_at x.call) (ap (holds (λ (t : ℕ). nat_le t (now s))) (sym deadline_is) ∙ both.1) in
      subst (IsEnded s c ending.Deadline) (sym step) (ends_cut_attempts s c x ending.Deadline opened h (none_by c.end both.0))

  -- or waits
  pub waits : (o : Option CallEnd) → c.end ≡ o → is_past_deadline s c ≡ false → timed_out (now s) x ≡ x
  waits (Some e) eo past = ended_by (steps.deadline_at x.call) (over_is ∙ ap (λ (o : Option CallEnd). is_some o) eo)
  waits None eo past =
      wait_by (steps.deadline_at x.call)
      (ap (holds (λ (t : ℕ). nat_le t (now s))) (sym deadline_is)
      ∙ sym (ap (λ (o : Option CallEnd). is_none o && holds (λ (t : ℕ). nat_le t (now s)) (deadline c s)) eo) ∙ past)

pub deadlines_end : DeadlinesEnd
deadlines_end s c x opened h past = ends s c x h opened past

pub deadlines_wait : DeadlinesWait
deadlines_wait s c x h past = waits s c x h c.end refl past
