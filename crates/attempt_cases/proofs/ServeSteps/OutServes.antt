-- An attempt that is placed: its call is served as before, and its timers are those of the session.
use Rattle.std.proofs.Common.{◌≡◌, ◌∷◌, ◌∙◌, ap, refl, subst, sym, Bool, true, List, [], Option, None, Some, ℕ, if◌then◌else◌, is_none, is_some, option_map}
use Rattle.std.specs.List.{list_all}
use Rattle.std.specs.Option.{option_map_or}
use Rattle.attempt_ledger.specs.declared.ledger.CallEnd.{CallEnd}
use Rattle.call_actions.proofs.Ranks.{numbered_map}
use Rattle.call_actions.proofs.TakeActions.Deadlines.{deadline_is}
use Rattle.call_actions.specs.Order.{AttemptsAreNumbered}
use Rattle.call_actions.specs.TakeActions.Serves.{AttemptsStandInPlace, IsLeft, Serves, is_ended_at}
use Rattle.call_core.specs.Laws.{came as channel_came}
use Rattle.call_core.specs.Steps.{deadline_at, next_due}
use Rattle.channel_actions.proofs.KeptSessions.Lists.{all_wide}
use Rattle.channel_actions.specs.Calls.{HasSlot, SeesCall, deadline_of, due_of, lent_to}
use Rattle.attempt_cases.proofs.ServeSteps.Lasts.{same_some}
use Rattle.attempt_cases.proofs.ServeSteps.OutBase as base
use Rattle.attempt_cases.proofs.ServeSteps.OutBase.{OutLaws, OutNext}
use Rattle.attempt_cases.proofs.ServeSteps.OutBuffer.{holds_now}
use Rattle.attempt_cases.proofs.ServeSteps.OutCall.{came_same, open_now, own_order, own_sees, own_turn}
use Rattle.channel_core.proofs.Places.{put_there}
use Rattle.channel_core.specs.States.{StateSeen}
use Rattle.channel_core.specs.declared.state.slots.CallSlot.{CallSlot}
use Rattle.grpc_base.specs.declared.event.EndCause.{EndCause}
use Rattle.grpc_base.specs.declared.event.Reply.{Reply}
use Rattle.session_actions.specs.Configs.{deadline}
use Rattle.session_actions.specs.DueAttempts as session
use Rattle.session_actions.specs.Tokens.{run_of}
use Rattle.session_actions.specs.Words.{holds, numbered}
use Rattle.session_actions.specs.declared.attempt.Attempt.{Attempt}
use Rattle.session_actions.specs.declared.call.Call.{Call}
use Rattle.session_actions.specs.declared.config.ThrottleRun.{ThrottleRun}
use Rattle.session_actions.specs.declared.seen.Seen.{Seen}

placed_so : (n : ℕ) (xs : List Attempt) → AttemptsAreNumbered n xs → AttemptsStandInPlace n xs
placed_so n [] p = tt
placed_so n (x ∷ xs) p = (p.0, placed_so _ xs p.1)

module _ (x : StateSeen) (s : Seen) (is : OutNext x s) where
  abbrev c : Call
  c = is.call

  abbrev slot2 : CallSlot
  slot2 = base.slot2 x s is

  abbrev t : Seen
  t = base.t x s is

  abbrev c1 : Call
  c1 = base.c1 x s is

  ended_by : (o : Option Attempt) → holds (λ (q : Attempt). is_some q.row.ended) (option_map (base.g x s is) o) ≡ holds (λ (q : Attempt). is_some q.row.ended) o
  ended_by None = refl
  ended_by (Some q) = refl

  ended_still : (j : ℕ) → is_ended_at s j ≡ true → is_ended_at t j ≡ true
  ended_still j e =
      ap (holds (λ (q : Attempt). is_some q.row.ended)) (numbered_map (base.g x s is) s.attempts j) ∙ ended_by (numbered s.attempts j) ∙ e

  counted_by : (q : Option ThrottleRun) → option_map_or (λ (run : ThrottleRun). list_all (is_ended_at s) run.ends) q true ≡ true
      → option_map_or (λ (run : ThrottleRun). list_all (is_ended_at t) run.ends) q true ≡ true
  counted_by None e = refl
  counted_by (Some run) e = all_wide (is_ended_at s) (is_ended_at t) ended_still run.ends e

  module _ (laws : OutLaws) where
    own_serves : Serves t c1 (lent_to (base.y x s is) t slot2)
    own_serves = record {
      sees = own_sees x s is laws;
      places = placed_so 1 t.attempts (own_order x s is laws).places;
      config = is.sees.serves.config;
      links = refl;
      reads = is.sees.serves.reads;
      counted = counted_by (run_of c s) is.sees.serves.counted;
      end_taken = is.sees.serves.end_taken;
      going = is.sees.serves.going;
      left = λ e. subst (λ (all : List Reply). IsLeft all c.taken (channel_came is.slot.call)) (sym (came_same x s is)) (is.sees.serves.left e);
      holds = λ e. holds_now x s is;
    }

    pub own_due : due_of (base.t x s is) (base.c1 x s is) ≡ (base.slot2 x s is).due
    own_due =
        ap (λ (q : Bool). if q then session.next_due c1 t else None) (ap (λ (o : Option CallEnd). is_none o) (base.is_open x s is))
        ∙ laws.dues t c1 (lent_to (base.y x s is) t slot2) (own_sees x s is laws)
        ∙ sym (ap (λ (o : Option EndCause). if is_none o then next_due (base.slot1 x s is).call else None) (open_now x s is))

    pub own_deadline : deadline_of (base.t x s is) (base.c1 x s is) ≡ (base.slot2 x s is).deadline
    own_deadline =
        ap (λ (q : Bool). if q then deadline c1 t else None) (ap (λ (o : Option CallEnd). is_none o) (base.is_open x s is))
        ∙ deadline_is t c1 (lent_to (base.y x s is) t slot2) own_serves
        ∙ sym (ap (λ (o : Option EndCause). if is_none o then deadline_at (base.slot1 x s is).call else None) (open_now x s is))

    own_call : SeesCall (base.y x s is) t c1 slot2
    own_call = record {
      bucket = is.sees.bucket;
      serves = own_serves;
      order = own_order x s is laws;
      turn = own_turn x s is laws;
      due = own_due;
      deadline_is = own_deadline;
    }

    pub own_slot : (d : Call) → numbered (base.t x s is).calls is.call.number ≡ Some d → HasSlot (base.y x s is) (base.t x s is) d is.call.number
    own_slot d e =
        subst (λ (k : Call). HasSlot (base.y x s is) t k c.number) (same_some c1 d (numbered t.calls c.number) (base.own_now x s is) e)
        (record { slot = slot2; there = put_there x.book.calls c.number is.slot slot2 is.slot_there; sees = own_call })
