-- The calls of a channel are sound along whole steps.
use Rattle.std.proofs.Common.{ℕ, zero, suc, List, [], None, Option, Some, refl, arith, length, ◌∷◌, ◌≡◌}
use Rattle.channel_actions.proofs.Calls.Going.Arms.{CallLaws}
use Rattle.channel_actions.proofs.Calls.Sound.Carried.{AreSound, Keeps, Kept, Settles, carries, configures, rests}
use Rattle.channel_actions.proofs.Calls.Sound.Tables.{AllSound, of_slot, sound_each, sound_last, sound_numbered, to_slot}
use Rattle.channel_actions.specs.SoundCalls.Laws.{AnswersKeepCalls, DeadlinesKeepCalls, NewCallsAreSound, SettlingsKeepCalls, StepsKeepCalls}
use Rattle.channel_actions.specs.GoingCalls.Going.{AllowsAttempts, CallsGoOn, GoesOn}
use Rattle.channel_actions.specs.SoundCalls.Sound.{AllowsPlans, CallsAreSound}
use Rattle.service_config.specs.declared.config.Config.{Config}
use Rattle.std.specs.List.{AllByRecursion}
use Rattle.channel_core.proofs.Carrying.{Carried, overdue}
use Rattle.channel_core.proofs.CarryingSteps.{answered, carried}
use Rattle.channel_core.proofs.RestingSteps.{settle}
use Rattle.channel_core.proofs.Resting.{with_book}
use Rattle.channel_core.specs.Applying.{AnswersBy, Stepped, begun_at}
use Rattle.channel_core.specs.Books.{book_begun}
use Rattle.channel_core.specs.Settling.{settled}
use Rattle.channel_core.specs.States.{StateSeen}
use Rattle.channel_core.specs.Steps.{overdue_ended}
use Rattle.channel_core.specs.Tables.{numbered}
use Rattle.channel_core.specs.declared.state.slots.CallSlot.{CallSlot}
use Rattle.grpc_base.specs.Requests.{RequestSeen}
use Rattle.grpc_base.specs.declared.event.Event.{Event}
use Rattle.grpc_base.specs.declared.event.Event.TheVariants as event
use Rattle.grpc_base.specs.declared.event.Refusal.{Refusal}
use Rattle.grpc_base.specs.declared.event.Reply.{Reply}
use Rattle.channel_actions.proofs.ReadConfigs.{allowed}

pub sound_of : (x : StateSeen) → CallsAreSound x → AreSound x
sound_of x k = record {
  calls = sound_each (length x.book.ledger.rows) x.book.calls (λ i slot e. of_slot (length x.book.ledger.rows) slot (k.slots (suc i) slot e));
  plans = k.plans;
}

pub sound_to : (x : StateSeen) → AreSound x → CallsAreSound x
sound_to x k = record {
  slots = λ number slot e. to_slot (length x.book.ledger.rows) slot (sound_numbered (length x.book.ledger.rows) x.book.calls number slot k.calls e);
  plans = k.plans;
}

-- so its calls go on
goes_all : (rows : ℕ) (calls : List CallSlot) → AllSound rows calls → AllByRecursion (λ (slot : CallSlot). GoesOn slot.call) calls
goes_all rows [] all = tt
goes_all rows (slot ∷ calls) all = (all.0.goes, goes_all rows calls all.1)

allows_by : (held : Option Config) → AllowsPlans held → AllowsAttempts held
allows_by None plans = tt
allows_by (Some config) plans = λ path. (plans path).least

pub goes_on : (x : StateSeen) → CallsAreSound x → CallsGoOn x
goes_on x k = record { calls = goes_all (length x.book.ledger.rows) x.book.calls (sound_of x k).calls; allows = allows_by x.held k.plans }

-- along whole steps
module _ (laws : CallLaws) where
  begins : (request : RequestSeen) (s : StateSeen) → Keeps s (with_book (book_begun request s.book) s)
  begins request s sound = record {
    rows = omega arith;
    sound = record {
      calls =
          sound_last (length s.book.ledger.rows) s.book.calls _ sound.calls
          (record { goes = laws.begun _ request s.book.moment; within = record { live = refl; held = refl }; sized = record { range = omega arith; sent = omega arith } });
      plans = sound.plans;
    };
  }

  events : (e : Event) → Carried Keeps e
  events (event.Begin request) = λ s. begins request s
  events (event.LinkUp sub) = λ s sound. record { rows = omega arith; sound = record { calls = sound.calls; plans = sound.plans } }
  events (event.Resolved addresses text) = λ config kinds s read sound. record {
    rows = omega arith;
    sound = record {
      calls = sound.calls;
      plans = λ path. record { least = (allowed config kinds text read path).least; most = (allowed config kinds text read path).most };
    };
  }
  events (event.Send number message) = tt
  events (event.Finish number) = tt
  events (event.Take number) = tt
  events (event.Cancel number) = tt
  events event.ResolveFailed = tt
  events event.TakeDial = tt
  events (event.DialFailed sub) = tt
  events (event.Arrived link piece) = tt
  events (event.LinkLost link) = tt
  events (event.Drain link room) = tt
  events (event.Ping link word) = tt
  events event.Tick = tt
  events event.Shutdown = tt

  pub new_calls : NewCallsAreSound
  new_calls alloc authority policies = record { slots = λ number slot e. absurd (none number slot e); plans = tt }
    where
      none : (number : ℕ) (slot : CallSlot) → numbered [] number ≡ Some slot → ⊥
      none zero slot e = (cc)
      none (suc i) slot e = (cc)

  pub deadlines_keep : DeadlinesKeepCalls
  deadlines_keep x k = sound_to (overdue_ended x) (overdue Keeps (carries laws) x (sound_of x k)).sound

  answers_kept : (refused : Option Refusal) (e : Event) (x y : StateSeen) (r : Reply) → AnswersBy refused e x y r → CallsAreSound x → Kept x y
  answers_kept refused e x y r by k = answered Keeps (carries laws) refused e x y r (events e) by (sound_of x k)

  pub answers_keep : AnswersKeepCalls
  answers_keep refused e x y r by k = sound_to y (answers_kept refused e x y r by k).sound

  settlings_kept : (x : StateSeen) → CallsAreSound x → Kept x (settled x)
  settlings_kept x k = (settle Settles (rests laws) x (configures laws) (sound_of x k)).kept

  pub settlings_keep : SettlingsKeepCalls
  settlings_keep x k = sound_to (settled x) (settlings_kept x k).sound

  steps_kept : (entry moment word : ℕ) (e : Event) (old new : StateSeen) (r : Reply) → Stepped entry moment word e old new r → CallsAreSound old → Kept (begun_at entry moment word old) new
  steps_kept entry moment word e old new r steps k =
      carried Keeps (carries laws) entry moment word e old new r (λ chosen number s is sound. (configures laws chosen number s is sound).kept) (events e) steps
      (sound_of (begun_at entry moment word old) (record { slots = k.slots; plans = k.plans }))

  pub steps_keep : StepsKeepCalls
  steps_keep entry moment word e old new r steps k = sound_to new (steps_kept entry moment word e old new r steps k).sound
