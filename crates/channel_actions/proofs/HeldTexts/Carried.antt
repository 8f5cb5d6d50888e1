-- Each single thing that is done to a channel, but a Send, leaves its calls no more of their messages than they held; so does a whole stage of an entry.
use Rattle.std.proofs.Common.{◌≡◌, ◌+◌, ◌∷◌, ap, refl, subst, sym, List, [], Option, None, ℕ, length}
use Rattle.call_core.specs.Steps as call
use Rattle.channel_actions.proofs.HeldTexts.Steps as step
use Rattle.channel_actions.proofs.HeldTexts.Trims.{AreTrimmed, acted_trimmed, beside_trimmed, changed_trimmed, more_trimmed, trimmed_on, trimmed_same}
use Rattle.channel_core.proofs.Going as going
use Rattle.channel_core.proofs.Going.{Configures, IsLocalActionInvariant, Gone, rests}
use Rattle.channel_core.proofs.GoingSteps as stages
use Rattle.channel_core.proofs.Resting.{IsQuietActionInvariant}
use Rattle.channel_core.specs.Applying.{AnswersBy}
use Rattle.channel_core.specs.Books.{bucket_set, call_of, row_at}
use Rattle.channel_core.specs.Draining.{DrainLeaves}
use Rattle.channel_core.specs.Feeding.{all_fed, book_fed}
use Rattle.channel_core.specs.Settling.{settled}
use Rattle.channel_core.specs.States.{StateSeen}
use Rattle.channel_core.specs.Steps.{followed, next_word, overdue_ended, sealed}
use Rattle.channel_core.specs.Tables.{fed_call, last_run, with_bucket, with_timers, without_due}
use Rattle.channel_core.specs.declared.state.book.Book.{Book}
use Rattle.channel_core.specs.declared.state.slots.CallSlot.{CallSlot}
use Rattle.call_core.specs.declared.act.CallAct.{CallAct}
use Rattle.grpc_base.specs.declared.event.Event.TheVariants as event
use Rattle.grpc_base.specs.declared.event.Event.{Event}
use Rattle.grpc_base.specs.declared.event.Refusal.{Refusal}
use Rattle.grpc_base.specs.declared.event.Reply.{Reply}

abbrev pub Trims : StateSeen → StateSeen → Type 0
Trims x y = AreTrimmed x.book.calls y.book.calls

-- what leaves the calls
left : (s t : StateSeen) → t.book.calls ≡ s.book.calls → Trims s t
left s t e = subst (AreTrimmed s.book.calls) (sym e) (trimmed_same s.book.calls)

pub goes_trims : IsLocalActionInvariant Trims
goes_trims = record {
  joined = λ s t u first second. trimmed_on s.book.calls t.book.calls u.book.calls first second;
  beside = λ s t book held links shut. left s t (ap (λ b. b.calls) book);
  timed_out = λ number s. acted_trimmed (call.timed_out s.book.moment) s.book.ledger _ (λ z. step.timed_out s.book.moment z) s.book.calls number;
  closed = λ why number s by. acted_trimmed (call.closed_by why s.book.moment) s.book.ledger _ (λ z. step.closed why s.book.moment z) s.book.calls number;
  made = λ number s. acted_trimmed (call.made_due s.book.moment) s.book.ledger _ (λ z. step.made s.book.moment z) s.book.calls number;
  handled = λ row reported number s fair. acted_trimmed (call.received_news row reported s.book.moment (next_word s)) s.book.ledger _ (λ z. step.handled row reported s.book.moment (next_word s) z) s.book.calls number;
  failed = λ row number s. acted_trimmed (call.pick_failed row s.book.moment (next_word s)) s.book.ledger _ (λ z. step.failed row s.book.moment (next_word s) z) s.book.calls number;
  placed = λ row at number s entry moment. acted_trimmed (call.placed_at row at) s.book.ledger None (λ z. step.placed row at z) s.book.calls number;
  taken = λ number s. changed_trimmed call.taken (λ c. step.taken c) s.book.calls number;
  timers = λ due deadline number s. beside_trimmed (with_timers due deadline) (λ slot. refl) s.book.calls number;
  forgotten = λ number s. beside_trimmed without_due (λ slot. refl) s.book.calls number;
  asked = λ a s entry. trimmed_same s.book.calls;
  gone = λ link s. trimmed_same s.book.calls;
  read = λ link read s. trimmed_same s.book.calls;
  added = λ kind s. trimmed_same s.book.calls;
  activated = λ number s. trimmed_same s.book.calls;
  retired = λ number s. trimmed_same s.book.calls;
}

-- and of what comes of no event
pub rests_trim : IsQuietActionInvariant Trims
rests_trim = rests Trims goes_trims

-- a config
bucketed : (bucket : ℕ) (slot : CallSlot) → (with_bucket bucket slot).call ≡ slot.call
bucketed bucket slot = refl

pub chosen_trims : Configures Trims
chosen_trims chosen number s e =
    trimmed_on s.book.calls (bucket_set number s.book) _
    (beside_trimmed (with_bucket (last_run s.book.buckets)) (bucketed (last_run s.book.buckets)) s.book.calls number)
    (acted_trimmed (call.configured chosen s.book.moment) s.book.ledger None (λ z. step.configured chosen s.book.moment z) (bucket_set number s.book) number)

-- a drain
feed_all : (feeds : List (ℕ × ℕ)) (b : Book) → AreTrimmed b.calls (all_fed feeds b).calls
feed_all [] b = trimmed_same b.calls
feed_all (f ∷ feeds) b =
    trimmed_on b.calls (book_fed f.0 f.1 b).calls (all_fed feeds (book_fed f.0 f.1 b)).calls
    (changed_trimmed (fed_call f.0 f.1) (λ c. step.fed f.0 f.1 c) b.calls (call_of (row_at b f.0))) (feed_all feeds (book_fed f.0 f.1 b))

drains : (link room : ℕ) (s t : StateSeen) (r : Reply) → DrainLeaves link room s r t → Trims s t
drains link room s t r d =
    let fed : AreTrimmed s.book.calls d.fed.calls = subst (λ (b : Book). AreTrimmed s.book.calls b.calls) (sym d.feeds.1) (feed_all d.feeds.0 s.book) in
    subst (λ (u : StateSeen). Trims s u) (sym d.state_is) fed

-- an event that sends no message
abbrev pub IsQuiet : Event → Type 0
IsQuiet (event.Send number message) = ⊥
IsQuiet _ = Unit {0}

events : (e : Event) → IsQuiet e → Gone Trims e
events (event.Begin request) off = λ s. more_trimmed s.book.calls _ (step.begun (length s.book.ledger.calls + 1) request s.book.moment)
events (event.Send number message) off = absurd off
events (event.Finish number) off = λ s. changed_trimmed call.finished (λ c. step.finished c) s.book.calls number
events (event.Resolved addresses text) off = λ config kinds s read. trimmed_same s.book.calls
events (event.LinkUp sub) off = λ s. trimmed_same s.book.calls
events (event.Drain link room) off = λ s t r g. drains link _ s t r g
events (event.Take number) off = tt
events (event.Cancel number) off = tt
events event.ResolveFailed off = tt
events event.TakeDial off = tt
events (event.DialFailed sub) off = tt
events (event.Arrived link piece) off = tt
events (event.LinkLost link) off = tt
events (event.Ping link word) off = tt
events event.Tick off = tt
events event.Shutdown off = tt

-- the stages
pub overdue_trims : (x : StateSeen) → Trims x (overdue_ended x)
overdue_trims x = going.overdue Trims goes_trims x

pub settled_trims : (x : StateSeen) → Trims x (settled x)
settled_trims x = stages.settle Trims goes_trims x chosen_trims

pub answered_trims : (refused : Option Refusal) (e : Event) (x y : StateSeen) (r : Reply) → IsQuiet e → AnswersBy refused e x y r → Trims x y
answered_trims refused e x y r off by = stages.answered Trims goes_trims refused e x y r (events e off) by

-- what follows a Send
pub after_trims : (number : ℕ) (acts : List CallAct) (x : StateSeen) → Trims x (sealed (followed number acts x))
after_trims number acts x = going.then_seal Trims goes_trims x (followed number acts x) (going.follow Trims goes_trims number acts x)
