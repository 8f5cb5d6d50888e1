-- A Cancel of a call that has ended: the channel does nothing, and the session refuses it.
use Rattle.std.proofs.Common.{◌≡◌, ◌-◌, ◌==◌, ◌∷◌, ap, arith, refl, subst, sym, ◌∙◌, Bool, true, false, List, [], Option, None, Some, ℕ, zero, suc, if◌then◌else◌, is_none, is_some, not, slice_get, slice_set}
use Rattle.std.proofs.lemmas.Bool.Decides.{nat_tests}
use Rattle.std.specs.Option.{option_map}
use Rattle.attempt_ledger.specs.declared.ledger.CallEnd.{CallEnd}
use Rattle.call_core.specs.Steps as call
use Rattle.call_core.specs.Steps.{Stepped, lent}
use Rattle.call_cases.specs.CallEnds.Laws.{LateCancels}
use Rattle.channel_actions.proofs.Answering.{refused_so}
use Rattle.channel_actions.proofs.Dialling.{unshut_by}
use Rattle.channel_actions.specs.Agrees.{Agrees}
use Rattle.channel_actions.specs.Calls.{HasSlot}
use Rattle.channel_core.specs.Applying as channel
use Rattle.channel_core.specs.Applying.{AnswersBy}
use Rattle.channel_core.specs.Arrivals.{cancelled}
use Rattle.channel_core.specs.Books.{BookActs, book_asked, deadline_of, due_at, placed_in_book, slot_at, timers_set}
use Rattle.channel_core.specs.States.{StateSeen}
use Rattle.channel_core.specs.Steps.{call_asked, links_sealed, sealed, timers_moved_to, with_book}
use Rattle.channel_core.specs.Tables.{acted_as, cancel_reply_of, tokens_in, with_timers}
use Rattle.channel_core.specs.Timing.{is_same_moment, timer_moved, timer_off, timer_on}
use Rattle.channel_core.specs.declared.state.slots.CallSlot.{CallSlot}
use Rattle.grpc_base.specs.declared.event.EndCause.{EndCause}
use Rattle.grpc_base.specs.declared.event.EndCause.TheVariants as ending
use Rattle.grpc_base.specs.declared.event.Event.{Event}
use Rattle.grpc_base.specs.declared.event.Event.TheVariants as event
use Rattle.grpc_base.specs.declared.event.Refusal.{Refusal}
use Rattle.grpc_base.specs.declared.event.Refusal.TheVariants as refusal
use Rattle.grpc_base.specs.declared.event.Reply.TheVariants as reply
use Rattle.session_actions.specs.Configs.{deadline}
use Rattle.session_actions.specs.DueAttempts.{next_due}
use Rattle.session_actions.specs.Events.{event_action, event_action_by}
use Rattle.session_actions.specs.Refusals.{cancel_refusal, refused_if}
use Rattle.session_actions.specs.Words.{numbered}
use Rattle.session_actions.specs.declared.action.Action.TheVariants as action
use Rattle.session_actions.specs.declared.call.Call.{Call}
use Rattle.session_actions.specs.declared.seen.Seen.{Seen}
use Rattle.channel_actions.proofs.Links.Settings.Slots.{asked_is, changed_slot_is}

-- a slot that is put where it was; timers that stay
set_same : {X : Type 0} (xs : List X) (i : ℕ) (x : X) → slice_get xs i ≡ Some x → slice_set xs i x ≡ xs
set_same [] i x e = absurd (cc)
set_same (y ∷ xs) zero x e = let same : x ≡ y = (cc) in ap (λ (z : _). z ∷ xs) same
set_same (y ∷ xs) (suc i) x e = ap (λ (l : List _). y ∷ l) (set_same xs i x e)

slot_same : (calls : List CallSlot) (n : ℕ) (slot : CallSlot) → numbered calls n ≡ Some slot → slice_set calls (n - 1) slot ≡ calls
slot_same calls zero slot e = absurd (cc)
slot_same calls (suc i) slot e = ap (λ (k : ℕ). slice_set calls k slot) (let p : suc i - 1 ≡ i = omega arith in p) ∙ set_same calls i slot e

self_moment : (d : Option ℕ) → is_same_moment d d ≡ true
self_moment None = refl
self_moment (Some m) = let e : (m == m) ≡ true = grind (arith, nat_tests) in e

timer_same : (n : ℕ) (d : Option ℕ) (timers : List (ℕ × ℕ)) → timer_moved n d d timers ≡ timers
timer_same n d timers = ap (λ (b : Bool). if b then timers else timer_on n d (timer_off n d timers)) (self_moment d)

-- what a call does that leaves it, where its timers stand
module _ (f : Stepped → Stepped) (n : ℕ) (x : StateSeen) (slot : CallSlot) (there : slot_at x.book n ≡ Some slot)
    (left : f (lent slot.call x.book.ledger (tokens_in x.book.buckets slot.bucket) []) ≡ lent slot.call x.book.ledger (tokens_in x.book.buckets slot.bucket) [])
    (due : due_at (Some slot) ≡ slot.due) (deadline_is : deadline_of (Some slot) ≡ slot.deadline) (resets : x.resets ≡ []) where
  abbrev nothing : BookActs
  nothing = record { book = x.book; acts = [] }

  book_is : book_asked f n x.book ≡ nothing
  book_is =
      asked_is f n x.book slot there ∙ ap (λ (z : Stepped). placed_in_book (acted_as x.book.calls (n - 1) slot z) x.book) left
      ∙ ap (λ (cs : List CallSlot). record { book = record x.book { calls = cs }; acts = [] }) (slot_same x.book.calls n slot there)

  timers_are : timers_moved_to n (Some slot) x ≡ x
  timers_are =
      ap (λ (d : Option ℕ). record x { dues = timer_moved n slot.due d x.dues; deadlines = timer_moved n slot.deadline (deadline_of (Some slot)) x.deadlines; book = timers_set d (deadline_of (Some slot)) n x.book }) due
      ∙ ap (λ (d : Option ℕ). record x { dues = timer_moved n slot.due slot.due x.dues; deadlines = timer_moved n slot.deadline d x.deadlines; book = timers_set slot.due d n x.book }) deadline_is
      ∙ ap (λ (ds : List (ℕ × ℕ)). record x { dues = ds; deadlines = timer_moved n slot.deadline slot.deadline x.deadlines; book = timers_set slot.due slot.deadline n x.book }) (timer_same n slot.due x.dues)
      ∙ ap (λ (ds : List (ℕ × ℕ)). record x { deadlines = ds; book = timers_set slot.due slot.deadline n x.book }) (timer_same n slot.deadline x.deadlines)
      ∙ ap (λ (cs : List CallSlot). record x { book = record x.book { calls = cs } })
      (changed_slot_is (with_timers slot.due slot.deadline) x.book.calls n slot there ∙ slot_same x.book.calls n slot there)

  asked_same : call_asked f n x ≡ x
  asked_same =
      ap (λ (z : BookActs). with_book z n x) book_is ∙ ap (λ (o : Option CallSlot). timers_moved_to n o x) there ∙ timers_are

  pub unasked : sealed (call_asked f n x) ≡ x
  unasked = ap sealed asked_same ∙ ap (λ (ls : List ℕ). links_sealed ls (record x { resets = [] })) resets ∙ ap (λ (ls : List ℕ). record x { resets = ls }) (sym resets)

-- of a call that has ended
open_by : {X : Type 0} (o : Option X) → is_some o ≡ true → is_none o ≡ false
open_by None e = absurd (cc)
open_by (Some x) e = refl

some_cause : (o : Option CallEnd) (p : Option EndCause) → option_map (λ (e : CallEnd). e.cause) o ≡ p → is_some o ≡ true → is_some p ≡ true
some_cause None p e h = absurd (cc)
some_cause (Some k) p e h = sym (ap (λ (q : Option EndCause). is_some q) e)

module _ (x : StateSeen) (s : Seen) (h : Agrees x s) (n : ℕ) (c : Call) (there : numbered s.calls n ≡ Some c) (ended : is_some c.end ≡ true) where
  pub has : HasSlot x s c n
  has = h.calls.each n c there

  pub ended_too : is_some has.slot.call.ended ≡ true
  ended_too = some_cause c.end has.slot.call.ended has.sees.serves.sees.ended ended

  pub no_due : due_at (Some has.slot) ≡ has.slot.due
  no_due =
      ap (λ (b : Bool). if b then call.next_due has.slot.call else None) (open_by has.slot.call.ended ended_too)
      ∙ sym (ap (λ (b : Bool). if b then next_due c s else None) (open_by c.end ended)) ∙ has.sees.due

  pub no_deadline : deadline_of (Some has.slot) ≡ has.slot.deadline
  no_deadline =
      ap (λ (b : Bool). if b then call.deadline_at has.slot.call else None) (open_by has.slot.call.ended ended_too)
      ∙ sym (ap (λ (b : Bool). if b then deadline c s else None) (open_by c.end ended)) ∙ has.sees.deadline_is

  pub late_state : (cancelled n x).state ≡ x
  late_state =
      unasked (call.cancelled x.book.moment) n x has.slot has.there
      (ap (λ (b : Bool). if not b then call.ended_as ending.Cancelled x.book.moment (lent has.slot.call x.book.ledger (tokens_in x.book.buckets has.slot.bucket) [])
      else lent has.slot.call x.book.ledger (tokens_in x.book.buckets has.slot.bucket) []) ended_too)
      no_due no_deadline h.sets.resets

  pub late_reply : (cancelled n x).reply ≡ reply.Refused refusal.CallEnded
  late_reply =
      ap cancel_reply_of has.there ∙ ap (λ (b : Bool). if b then reply.Refused refusal.CallEnded else reply.Done) ended_too

  pub late_refused : s.shut ≡ false → event_action (event.Cancel n) s ≡ Some (action.EventRefused refusal.CallEnded)
  late_refused going =
      ap (λ (b : Bool). event_action_by (refused_if b refusal.Shut (cancel_refusal (numbered s.calls n))) (event.Cancel n) s) going
      ∙ ap (λ (o : Option Call). event_action_by (cancel_refusal o) (event.Cancel n) s) there
      ∙ ap (λ (b : Bool). event_action_by (refused_if b refusal.CallEnded None) (event.Cancel n) s) ended

pub late_cancels : LateCancels
late_cancels x y r o s h at fresh timely case answers =
    let n : ℕ = case.cancelled.number in
    let is : o.event ≡ event.Cancel n = case.cancelled.event_is in
    let kept : channel.refusal_of (event.Cancel n) x ≡ None = ap (λ (e : Event). channel.refusal_of e x) (sym is) ∙ case.cancelled.kept in
    let unshut : x.shut ≡ false = (unshut_by x.shut (channel.open_refusal (event.Cancel n) x) kept).0 in
    let given : AnswersBy None (event.Cancel n) x y r
    = subst (λ (e : Event). AnswersBy None e x y r) is (subst (λ (z : Option Refusal). AnswersBy z o.event x y r) case.cancelled.kept answers) in
    refused_so x y r refusal.CallEnded o s h at fresh timely
    (ap (λ (e : Event). event_action e s) is ∙ late_refused x s h n case.cancelled.call case.cancelled.there case.ended (h.configs.shut ∙ unshut))
    (given.0 ∙ late_state x s h n case.cancelled.call case.cancelled.there case.ended)
    (given.1 ∙ late_reply x s h n case.cancelled.call case.cancelled.there case.ended)
