-- Each single thing that is done to a channel leaves the buffers of its calls sound, where its calls go on; so does a whole step, and so do its parts.
use Rattle.std.proofs.Common.{◌≡◌, ◌+◌, ◌≤◌, ◌∷◌, ℕ, List, [], Option, Some, None, length, refl, sym, ap, subst}
use Rattle.attempt_ledger.specs.Numbering.{most_attempts}
use Rattle.a6_numbers.specs.Throttling.{Bucket}
use Rattle.attempt_ledger.specs.declared.ledger.Ledger.{Ledger}
use Rattle.attempt_ledger.specs.declared.row.Placed.{Placed}
use Rattle.call_core.specs.Steps as call
use Rattle.call_core.specs.Steps.{Stepped, lent}
use Rattle.channel_core.proofs.Carrying.{Carried, IsActionInvariant, Configures, overdue}
use Rattle.channel_core.proofs.CarryingSteps.{answered, settle, carried}
use Rattle.channel_core.proofs.Resting.{IsQuietActionInvariant}
use Rattle.channel_core.specs.Books.{bucket_set, slot_at}
use Rattle.channel_core.specs.States.{StateSeen}
use Rattle.channel_core.specs.Steps.{chosen_in, next_word, overdue_ended}
use Rattle.channel_core.specs.Tables.{fed_call, last_run, with_bucket, with_timers, without_due}
use Rattle.channel_core.specs.declared.state.slots.CallSlot.{CallSlot}
use Rattle.channel_actions.proofs.Calls.Going.Arms.{CallLaws}
use Rattle.channel_actions.proofs.SoundBuffers.Arms as arm
use Rattle.channel_actions.proofs.SoundBuffers.Arms.{Sound, from_held, to_held}
use Rattle.channel_actions.proofs.SoundBuffers.Slots.{AllAre, all_acted, all_beside, all_changed, all_more, all_numbered}
use Rattle.channel_actions.specs.SoundBuffers.Held.{BuffersAreSound, HoldsSoundly}
use Rattle.channel_actions.specs.SoundBuffers.Laws.{AnswersHoldSoundly, DeadlinesHoldSoundly, EachHoldsSoundly, NewBuffersAreSound, SettlingsHoldSoundly, StepsHoldSoundly}
use Rattle.channel_actions.specs.GoingCalls.Going.{AllowsAttempts, CallsGoOn, GoesOn}
use Rattle.call_core.specs.declared.state.CallState.{CallState}
use Rattle.std.specs.List.{AllByRecursion}
use Rattle.channel_core.specs.Settling.{settled}
use Rattle.channel_core.specs.Tables.{acted, numbered}
use Rattle.grpc_base.specs.declared.event.Event.{Event}
use Rattle.grpc_base.specs.declared.event.Event.TheVariants as event
use Rattle.grpc_base.specs.declared.plan.Chosen.{Chosen}
use Rattle.channel_actions.proofs.ReadConfigs.{allowed}
use Rattle.service_config.specs.Choice.{chosen_for}
use Rattle.service_config.specs.declared.config.Config.{Config}

-- a call goes on, and holds its messages soundly
pub record Both (call : CallState) : Type 0 where
  pub goes : GoesOn call
  pub holds : Sound call

pub record AreSound (x : StateSeen) : Type 0 where
  pub calls : AllAre Both x.book.calls
  pub allows : AllowsAttempts x.held

abbrev pub Stay : StateSeen → StateSeen → Type 0
Stay s t = AreSound s → AreSound t

-- what leaves the calls, and what changes them
left : (s t : StateSeen) → t.book.calls ≡ s.book.calls → t.held ≡ s.held → Stay s t
left s t calls held g = record { calls = subst (AllAre Both) (sym calls) g.calls; allows = subst AllowsAttempts (sym held) g.allows }

into : (s t : StateSeen) → t.held ≡ s.held → (AllAre Both s.book.calls → AllAre Both t.book.calls) → Stay s t
into s t held calls g = record { calls = calls g.calls; allows = subst AllowsAttempts (sym held) g.allows }

chosen_allows : (held : Option Config) (slot : Option CallSlot) (chosen : Chosen) → AllowsAttempts held → chosen_in held slot ≡ Some chosen → 1 ≤ most_attempts chosen.plan
chosen_allows None slot chosen allows e = absurd (let no_ : ⊥ = (cc) in no_)
chosen_allows (Some config) None chosen allows e = absurd (let no_ : ⊥ = (cc) in no_)
chosen_allows (Some config) (Some slot) chosen allows e =
    let same : chosen_for config slot.call.request.path ≡ chosen = (cc) in
    subst (λ (c : Chosen). 1 ≤ most_attempts c.plan) same (allows slot.call.request.path)

bucketed : (bucket : ℕ) (slot : CallSlot) → (with_bucket bucket slot).call ≡ slot.call
bucketed bucket slot = refl

both : (call : CallState) → GoesOn call → Sound call → Both call
both call goes holds = record { goes = goes; holds = holds }

acted_both : (f : Stepped → Stepped) → ((z : Stepped) → Both z.call → Both (f z).call) → (ledger : Ledger) (tokens : Option Bucket) (calls : List CallSlot) (number : ℕ)
    → AllAre Both calls → AllAre Both (acted f calls number ledger tokens).calls
acted_both f does ledger tokens calls number = all_acted Both f ledger tokens (λ c g. does (lent c ledger tokens []) g) calls number

-- both hold of the calls of a channel where each does
both_of : (calls : List CallSlot) → AllByRecursion (λ (slot : CallSlot). GoesOn slot.call) calls → AllByRecursion (λ (slot : CallSlot). HoldsSoundly slot.call) calls → AllAre Both calls
both_of [] goes holds = tt
both_of (slot ∷ calls) goes holds = (both slot.call goes.0 (from_held slot.call holds.0), both_of calls goes.1 holds.1)

held_of : (calls : List CallSlot) → AllAre Both calls → AllByRecursion (λ (slot : CallSlot). HoldsSoundly slot.call) calls
held_of [] all = tt
held_of (slot ∷ calls) all = (to_held slot.call all.0.holds, held_of calls all.1)

joined : (x : StateSeen) → CallsGoOn x → BuffersAreSound x → AreSound x
joined x g h = record { calls = both_of x.book.calls g.calls h; allows = g.allows }

-- what keeps both keeps the buffers
pub stay_in : (x y : StateSeen) → Stay x y → CallsGoOn x → BuffersAreSound x → BuffersAreSound y
stay_in x y stay g h = held_of y.book.calls (stay (joined x g h)).calls

module _ (laws : CallLaws) where
  placed_both : (row : ℕ) (at : Placed) (ledger : Ledger) (calls : List CallSlot) (number : ℕ) → at.entry ≡ ledger.entry → AllAre Both calls
      → AllAre Both (acted (call.placed_at row at) calls number ledger None).calls
  placed_both row at ledger calls number entry =
      all_acted Both (call.placed_at row at) ledger None
      (λ c g. record { goes = laws.placed row at (lent c ledger None []) entry g.goes; holds = arm.placed row at (lent c ledger None []) g.goes.kept g.holds }) calls number

  go_carries : IsActionInvariant Stay
  go_carries = record {
    joined = λ s t u first second g. second (first g);
    beside = λ s t book held links shut. left s t (ap (λ b. b.calls) book) held;
    timed_out = λ number s. into s _ refl (acted_both (call.timed_out s.book.moment) (λ z g. record { goes = laws.timed_out s.book.moment z g.goes; holds = arm.timed_out s.book.moment z g.holds }) s.book.ledger _ s.book.calls number);
    closed = λ why number s by. into s _ refl (acted_both (call.closed_by why s.book.moment) (λ z g. record { goes = laws.closed why s.book.moment z by g.goes; holds = arm.closed why s.book.moment z g.holds }) s.book.ledger _ s.book.calls number);
    sent = λ message number s. into s _ refl (acted_both (call.sent message s.book.moment) (λ z g. record { goes = laws.sent message s.book.moment z g.goes; holds = arm.sent message s.book.moment z g.holds }) s.book.ledger _ s.book.calls number);
    made = λ number s. into s _ refl (acted_both (call.made_due s.book.moment) (λ z g. record { goes = laws.made s.book.moment z g.goes; holds = arm.made s.book.moment z g.holds }) s.book.ledger _ s.book.calls number);
    handled = λ row reported number s fair. into s _ refl (acted_both (call.received_news row reported s.book.moment (next_word s)) (λ z g. record { goes = laws.handled row reported s.book.moment (next_word s) z g.goes; holds = arm.handled row reported s.book.moment (next_word s) z g.holds }) s.book.ledger _ s.book.calls number);
    failed = λ row number s. into s _ refl (acted_both (call.pick_failed row s.book.moment (next_word s)) (λ z g. record { goes = laws.failed row s.book.moment (next_word s) z g.goes; holds = arm.failed row s.book.moment (next_word s) z g.holds }) s.book.ledger _ s.book.calls number);
    placed = λ row at number s entry moment. into s _ refl (placed_both row at s.book.ledger s.book.calls number entry);
    finished = λ number s. into s _ refl (all_changed Both call.finished (λ c g. both (call.finished c) (laws.same c _ (laws.finished c) g.goes) (arm.finished c g.holds)) s.book.calls number);
    taken = λ number s. into s _ refl (all_changed Both call.taken (λ c g. both (call.taken c) (laws.same c _ (laws.taken c) g.goes) (arm.taken c g.holds)) s.book.calls number);
    fed = λ row len s. into s _ refl (all_changed Both (fed_call row len) (λ c g. both (fed_call row len c) (laws.same c _ (laws.fed row len c) g.goes) (arm.fed row len c g.holds)) s.book.calls _);
    timers = λ due deadline number s. into s _ refl (all_beside Both (with_timers due deadline) (λ slot. refl) s.book.calls number);
    forgotten = λ number s. into s _ refl (all_beside Both without_due (λ slot. refl) s.book.calls number);
    streamed = λ row stream s. left s _ refl refl;
    asked = λ a s entry. left s _ refl refl;
    gone = λ link s. left s _ refl refl;
    read = λ link read s. left s _ refl refl;
    added = λ kind s. left s _ refl refl;
    activated = λ number s. left s _ refl refl;
    retired = λ number s. left s _ refl refl;
  }

  -- and of what comes of no event
  pub stay_rests : IsQuietActionInvariant Stay
  stay_rests = record {
    joined = go_carries.joined;
    beside = go_carries.beside;
    timed_out = go_carries.timed_out;
    closed = go_carries.closed;
    made = go_carries.made;
    failed = go_carries.failed;
    placed = go_carries.placed;
    taken = go_carries.taken;
    timers = go_carries.timers;
    forgotten = go_carries.forgotten;
    asked = go_carries.asked;
    gone = go_carries.gone;
    added = go_carries.added;
    activated = go_carries.activated;
    retired = go_carries.retired;
  }

  go_events : (e : Event) → Carried Stay e
  go_events (event.Begin request) = λ s. into s _ refl (λ all. all_more Both s.book.calls _ all (both (call.new_call (length s.book.ledger.calls + 1) request s.book.moment) (laws.begun (length s.book.ledger.calls + 1) request s.book.moment) (arm.begun (length s.book.ledger.calls + 1) request s.book.moment)))
  go_events (event.LinkUp sub) = λ s. left s _ refl refl
  go_events (event.Resolved addresses text) = λ config kinds s read g. record {
    calls = g.calls;
    allows = λ path. (allowed config kinds text read path).least;
  }
  go_events (event.Send number message) = tt
  go_events (event.Finish number) = tt
  go_events (event.Take number) = tt
  go_events (event.Cancel number) = tt
  go_events event.ResolveFailed = tt
  go_events event.TakeDial = tt
  go_events (event.DialFailed sub) = tt
  go_events (event.Arrived link piece) = tt
  go_events (event.LinkLost link) = tt
  go_events (event.Drain link room) = tt
  go_events (event.Ping link word) = tt
  go_events event.Tick = tt
  go_events event.Shutdown = tt

  pub go_chosen : Configures Stay
  go_chosen chosen number s e g =
      let most : 1 ≤ most_attempts chosen.plan = chosen_allows s.held (slot_at s.book number) chosen g.allows e in
      into s _ refl (λ all. acted_both (call.configured chosen s.book.moment) (λ z g. record { goes = laws.configured chosen s.book.moment z most g.goes; holds = arm.configured chosen s.book.moment z g.holds }) s.book.ledger None (bucket_set number s.book) number
      (all_beside Both (with_bucket (last_run s.book.buckets)) (bucketed (last_run s.book.buckets)) s.book.calls number all)) g

  -- the laws
  pub new_buffers_are_sound : NewBuffersAreSound
  new_buffers_are_sound alloc authority policies = tt

  pub deadlines_hold_soundly : DeadlinesHoldSoundly
  deadlines_hold_soundly x g h = held_of (overdue_ended x).book.calls (overdue Stay go_carries x (joined x g h)).calls

  pub answers_hold_soundly : AnswersHoldSoundly
  answers_hold_soundly refused e x y r by g h = held_of y.book.calls (answered Stay go_carries refused e x y r (go_events e) by (joined x g h)).calls

  pub settlings_hold_soundly : SettlingsHoldSoundly
  settlings_hold_soundly x g h = held_of (settled x).book.calls (settle Stay go_carries x go_chosen (joined x g h)).calls

  pub steps_hold_soundly : StepsHoldSoundly
  steps_hold_soundly entry moment word e old new r steps g h =
      held_of new.book.calls (carried Stay go_carries entry moment word e old new r go_chosen (go_events e) steps (left old _ refl refl (joined old g h))).calls

all_held : (calls : List CallSlot) (number : ℕ) (slot : CallSlot) → AllByRecursion (λ (z : CallSlot). HoldsSoundly z.call) calls → numbered calls number ≡ Some slot → HoldsSoundly slot.call
all_held calls number slot all e = all_numbered HoldsSoundly calls number slot all e

pub each_holds_soundly : EachHoldsSoundly
each_holds_soundly x number slot h e = all_held x.book.calls number slot h e
