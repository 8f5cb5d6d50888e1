-- The moments for which calls wait, once one is committed: that of its next attempt is gone, and that of its deadline stays.
use Rattle.std.proofs.Common.{◌≡◌, ◌&&◌, ◌==◌, not, ap, refl, sym, ◌∙◌, Bool, false, List, Option, ℕ, is_none}
use Rattle.std.specs.Option.{option_and_then, option_map_or, option_or}
use Rattle.std.specs.Prelude.{unwrap_or}
use Rattle.call_core.specs.declared.inbox.Inbox.{Inbox}
use Rattle.call_cases.proofs.OtherCalls.Sets.{sets_stay}
use Rattle.channel_actions.proofs.Links.Settings.Pairs.{exactly_by}
use Rattle.channel_actions.proofs.Links.Settings.Timers.{by_number, timers_exactly}
use Rattle.channel_actions.specs.Calls.{HasSlot, deadline_of, due_of}
use Rattle.call_cases.specs.OtherCalls.Laws.{SetsApart}
use Rattle.channel_actions.specs.Sets.{PairsAreExactly, is_awaiting_config, is_in_deadlines, is_in_dues, is_in_fail_fast, is_ready_waiter}
use Rattle.attempt_cases.proofs.CallCommits.Alone.{goes_apart}
use Rattle.attempt_cases.proofs.CallCommits.Linked.{w}
use Rattle.attempt_cases.proofs.CallCommits.On as on_
use Rattle.attempt_cases.proofs.CallCommits.On.{has, on}
use Rattle.attempt_cases.proofs.CallCommits.Own.{call, config_same, deadline_same, due_same, none_cause, open_same, own_serves, slot_now, there}
use Rattle.attempt_cases.specs.CallCommits.Commits.{CommitsNext}
use Rattle.call_cases.specs.CallEnds.Ends.{TimersAgree}
use Rattle.channel_core.specs.States.{StateSeen}
use Rattle.session_actions.specs.Calls.{is_open_call}
use Rattle.grpc_base.specs.Requests.{RequestSeen}
use Rattle.service_config.specs.Choice.{chosen_for}
use Rattle.session_actions.specs.Configs.{no_choice, waits_for_ready}
use Rattle.session_actions.specs.declared.config.HeldConfig.{HeldConfig}
use Rattle.session_actions.specs.Words.{holds, is_number, numbered}
use Rattle.session_actions.specs.declared.action.CommitCause.{CommitCause}
use Rattle.session_actions.specs.declared.call.Call.{Call}
use Rattle.session_actions.specs.declared.entry.OpenEntry.{OpenEntry}
use Rattle.session_actions.specs.declared.seen.Seen.{Seen}
use Rattle.session_order.specs.declared.line.Line.{Line}

module _ (waits : Line → Bool) (n : ℕ) (why : CommitCause) (inbox : Inbox) (x : StateSeen) (o : OpenEntry) (s : Seen) (is : CommitsNext waits n why inbox x o s) where
  abbrev u : Seen
  u = on_.u waits n why inbox x o s is

  apart : SetsApart n s u
  apart = sets_stay n x s u (goes_apart waits n why inbox x o s is) is.agrees.calls

  abbrev was : HasSlot x s is.call n
  was = has waits n why inbox x o s is

  abbrev now_call : Call
  now_call = call waits n why inbox x o s is

  due_now : (m : ℕ) → is_in_dues u m n ≡ is_number m (slot_now waits n why inbox x o s is).due
  due_now m = ap (holds (λ (c : Call). is_number m (due_of u c))) (there waits n why inbox x o s is) ∙ ap (is_number m) (due_same waits n why inbox x o s is)

  deadline_now : (m : ℕ) → is_in_deadlines u m n ≡ is_number m (slot_now waits n why inbox x o s is).deadline
  deadline_now m =
      ap (holds (λ (c : Call). is_number m (deadline_of u c))) (there waits n why inbox x o s is) ∙ ap (is_number m) (deadline_same waits n why inbox x o s is)

  -- it is as open, has the same config, and waits for ready as before
  open_is : is_open_call now_call ≡ is_open_call is.call
  open_is = open_same waits n why inbox x o s is ∙ sym (none_cause is.call.end was.slot.call.ended was.sees.serves.sees.ended)

  unconfigured_is : (m : ℕ) → is_awaiting_config u m n ≡ is_awaiting_config s m n
  unconfigured_is m =
      ap (λ (q : Option Call). (m == 0) && holds (λ (c : Call). is_open_call c && is_none c.config) q) (there waits n why inbox x o s is)
      ∙ ap (λ (b : Bool). (m == 0) && (b && is_none now_call.config)) open_is
      ∙ ap (λ (q : Option ℕ). (m == 0) && (is_open_call is.call && is_none q)) (config_same waits n why inbox x o s is)
      ∙ sym (ap (λ (q : Option Call). (m == 0) && holds (λ (c : Call). is_open_call c && is_none c.config) q) is.there)

  request_is : now_call.request ≡ is.call.request
  request_is = (own_serves waits n why inbox x o s is).sees.request ∙ sym was.sees.serves.sees.request

  abbrev ready : RequestSeen → Option HeldConfig → Bool
  ready r held = unwrap_or (option_or r.wait (option_map_or (λ (h : HeldConfig). chosen_for h.config r.path) held no_choice).wait) false

  wait_for_ready_is : is_ready_waiter u n ≡ is_ready_waiter s n
  wait_for_ready_is =
      ap (holds (λ (c : Call). waits_for_ready c u)) (there waits n why inbox x o s is)
      ∙ ap (λ (hs : List HeldConfig). ready now_call.request (option_and_then (numbered hs) now_call.config)) (on waits n why inbox x o s is).rest.configs
      ∙ ap (λ (q : Option ℕ). ready now_call.request (option_and_then (numbered s.configs) q)) (config_same waits n why inbox x o s is)
      ∙ ap (λ (r : RequestSeen). ready r (option_and_then (numbered s.configs) is.call.config)) request_is
      ∙ sym (ap (holds (λ (c : Call). waits_for_ready c s)) is.there)

  fail_fast_is : (m : ℕ) → is_in_fail_fast u m n ≡ is_in_fail_fast s m n
  fail_fast_is m =
      ap (λ (b : Bool). b && not (is_ready_waiter u n)) (unconfigured_is m) ∙ ap (λ (b : Bool). is_awaiting_config s m n && not b) wait_for_ready_is

  as_before : (test other : ℕ → ℕ → Bool) (pairs : List (ℕ × ℕ)) → PairsAreExactly pairs test → ((m k : ℕ) → (k == n) ≡ false → other m k ≡ test m k) → ((m : ℕ) → other m n ≡ test m n)
      → PairsAreExactly pairs other
  as_before test other pairs h away own_ =
      exactly_by pairs test other h (λ a b. by_number n test other (λ i j e. sym (away i j e)) (λ i. sym (own_ i)) a b (b == n) refl)

  pub timers_on : TimersAgree (w waits n why inbox x o s is) u
  timers_on = record {
    dues = timers_exactly n x.dues (is_in_dues s) was.slot.due (slot_now waits n why inbox x o s is).due is.agrees.sets.dues
        (λ m. ap (holds (λ (c : Call). is_number m (due_of s c))) is.there ∙ ap (is_number m) was.sees.due)
        (is_in_dues u) (λ m k e. apart.dues m k e) due_now;
    deadlines = timers_exactly n x.deadlines (is_in_deadlines s) was.slot.deadline (slot_now waits n why inbox x o s is).deadline is.agrees.sets.deadlines
        (λ m. ap (holds (λ (c : Call). is_number m (deadline_of s c))) is.there ∙ ap (is_number m) was.sees.deadline_is)
        (is_in_deadlines u) (λ m k e. apart.deadlines m k e) deadline_now;
    awaiting_config = as_before (is_awaiting_config s) (is_awaiting_config u) x.awaiting_config is.agrees.sets.awaiting_config (λ m k e. apart.awaiting_config m k e) unconfigured_is;
    fail_fast = as_before (is_in_fail_fast s) (is_in_fail_fast u) x.fail_fast is.agrees.sets.fail_fast (λ m k e. apart.fail_fast m k e) fail_fast_is;
  }
