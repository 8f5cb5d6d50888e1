-- What the channel refuses by itself is refused by the session, for the same reason: Shut, NoSuchCall, NoSuchLink, LinkGone, RoomTooSmall.
use Rattle.std.proofs.Common.{◌≡◌, ◌∷◌, ap, arith, refl, subst, sym, ◌∙◌, Bool, true, false, List, [], Option, None, Some, ℕ, zero, suc, if◌then◌else◌, not, is_some, slice_get, length}
use Rattle.std.specs.Prelude.{nat_lt}
use Rattle.channel_actions.proofs.Answering.{answered_so, refused_so}
use Rattle.channel_core.specs.declared.state.links.LinkSlot.{LinkSlot}
use Rattle.channel_actions.specs.Cases.{IsRefused, IsTick}
use Rattle.channel_actions.proofs.Gone.{gone_same}
use Rattle.channel_actions.specs.Agrees.{Agrees}
use Rattle.channel_actions.specs.Quiescent.{IsAt}
use Rattle.channel_actions.specs.Stages.{EventsAnswered, IsAnswered}
use Rattle.channel_core.specs.Applying as channel
use Rattle.channel_core.specs.Applying.{Answers, AnswersBy, or_room, open_refusal}
use Rattle.channel_core.specs.Books.{lacks_call, slot_at}
use Rattle.channel_core.specs.States.{StateSeen}
use Rattle.channel_core.specs.Steps as channel_steps
use Rattle.grpc_base.specs.declared.event.Event.{Event}
use Rattle.grpc_base.specs.declared.event.Event.TheVariants as event
use Rattle.grpc_base.specs.declared.event.Refusal.{Refusal}
use Rattle.grpc_base.specs.declared.event.Refusal.TheVariants as refusal
use Rattle.grpc_base.specs.declared.event.Reply.{Reply}
use Rattle.grpc_base.specs.declared.event.Reply.TheVariants as reply
use Rattle.session_actions.specs.CallEnds.{next_deadline}
use Rattle.session_actions.specs.Events.{event_action_by}
use Rattle.session_actions.specs.Refusals.{cancel_refusal, is_gone, link_refusal, refusal_of, refusal_when_open, refused_if, send_refusal, take_refusal}
use Rattle.session_actions.specs.Words.{numbered}
use Rattle.session_actions.specs.declared.call.Call.{Call}
use Rattle.session_actions.specs.declared.entry.OpenEntry.{OpenEntry}
use Rattle.session_actions.specs.declared.entry.Stage.TheVariants as stage
use Rattle.session_actions.specs.declared.link.Link.{Link}
use Rattle.session_actions.specs.declared.seen.Seen.{Seen}

-- lists of one length have things of the same numbers
none_from : {X Y : Type 0} (xs : List X) (ys : List Y) (i : ℕ) → length xs ≡ length ys → slice_get xs i ≡ None → slice_get ys i ≡ None
none_from xs [] i long e = refl
none_from [] (y ∷ ys) i long e = absurd (let bad : 0 ≡ suc (length ys) = long in omega arith)
none_from (x ∷ xs) (y ∷ ys) zero long e = absurd (cc)
none_from (x ∷ xs) (y ∷ ys) (suc i) long e =
    none_from xs ys i (let both : suc (length xs) ≡ suc (length ys) = long in let one : length xs ≡ length ys = omega arith in one) e

pub none_numbered : {X Y : Type 0} (xs : List X) (ys : List Y) (n : ℕ) → length xs ≡ length ys → numbered xs n ≡ None → numbered ys n ≡ None
none_numbered xs ys zero long e = refl
none_numbered xs ys (suc i) long e = none_from xs ys i long e

-- a refusal that both have stays before others
if_same : (b c : Bool) (u v w : Option Refusal) (why : Refusal) → b ≡ c → (v ≡ Some why → w ≡ Some why) → (if b then u else v) ≡ Some why → (if c then u else w) ≡ Some why
if_same true c u v w why e f h = ap (λ (z : Bool). if z then u else w) (sym e) ∙ h
if_same false c u v w why e f h = ap (λ (z : Bool). if z then u else w) (sym e) ∙ f h

abbrev or_room_by : Bool → Option Refusal → Option Refusal
or_room_by small (Some why) = Some why
or_room_by small None = if small then Some refusal.RoomTooSmall else None

room_gone : (gone small : Bool)
    → or_room_by small (if gone then Some refusal.LinkGone else None) ≡ (if gone then Some refusal.LinkGone else if small then Some refusal.RoomTooSmall else None)
room_gone true small = refl
room_gone false small = refl

module _ (x : StateSeen) (s : Seen) (h : Agrees x s) where
  -- a call that the channel has not is none of the session
  call_by : (f : Option Call → Option Refusal) → f None ≡ Some refusal.NoSuchCall → (n : ℕ) (why : Refusal) (o : Option Call) → numbered s.calls n ≡ o
      → lacks_call (slot_at x.book n) ≡ Some why → f o ≡ Some why
  call_by f none n why None e lacks = none ∙ sym (ap lacks_call (none_numbered s.calls x.book.calls n h.calls.count e)) ∙ lacks
  call_by f none n why (Some c) e lacks =
      absurd (let bad : None ≡ Some why = sym (ap lacks_call (h.calls.each n c e).there) ∙ lacks in (cc))

  call_refused : (f : Option Call → Option Refusal) → f None ≡ Some refusal.NoSuchCall → (n : ℕ) (why : Refusal) → lacks_call (slot_at x.book n) ≡ Some why
      → f (numbered s.calls n) ≡ Some why
  call_refused f none n why lacks = call_by f none n why (numbered s.calls n) refl lacks

  -- the refusals by a link are the same
  link_by : (n : ℕ) (o : Option Link) → numbered s.links n ≡ o → channel.link_refusal n x ≡ link_refusal s o None
  link_by n None e =
      ap (λ (b : Bool). if not b then Some refusal.NoSuchLink else if channel_steps.is_gone n x then Some refusal.LinkGone else None)
      (ap (λ (o : Option LinkSlot). is_some o) (none_numbered s.links x.links n h.links.count e))
  link_by n (Some l) e =
      ap (λ (b : Bool). if not b then Some refusal.NoSuchLink else if channel_steps.is_gone n x then Some refusal.LinkGone else None)
      (ap (λ (o : Option LinkSlot). is_some o) (h.links.each n l e).there)
      ∙ ap (λ (b : Bool). if b then Some refusal.LinkGone else None) (gone_same x s h n l e)

  pub link_same : (n : ℕ) → channel.link_refusal n x ≡ link_refusal s (numbered s.links n) None
  link_same n = link_by n (numbered s.links n) refl

  room_by : (room : ℕ) (o : Option Link) → or_room room (link_refusal s o None) ≡ link_refusal s o (refused_if (nat_lt room 16393) refusal.RoomTooSmall None)
  room_by room None = refl
  room_by room (Some l) = room_gone (is_gone l s) (nat_lt room 16393)

  pub room_same : (n room : ℕ) → or_room room (channel.link_refusal n x) ≡ link_refusal s (numbered s.links n) (refused_if (nat_lt room 16393) refusal.RoomTooSmall None)
  room_same n room = ap (or_room room) (link_same n) ∙ room_by room (numbered s.links n)

  -- each event
  open_refused : (e : Event) (why : Refusal) → open_refusal e x ≡ Some why → refusal_when_open e s ≡ Some why
  open_refused (event.Send n message) why k = call_refused send_refusal refl n why k
  open_refused (event.Finish n) why k = call_refused send_refusal refl n why k
  open_refused (event.Cancel n) why k = call_refused cancel_refusal refl n why k
  open_refused (event.Arrived link piece) why k = sym (link_same link) ∙ k
  open_refused (event.LinkLost link) why k = sym (link_same link) ∙ k
  open_refused (event.Ping link word) why k = sym (link_same link) ∙ k
  open_refused (event.Drain link room) why k = sym (room_same link room) ∙ k
  open_refused (event.Begin request) why k = absurd (cc)
  open_refused (event.Take n) why k = absurd (cc)
  open_refused (event.Resolved addresses config) why k = absurd (cc)
  open_refused event.ResolveFailed why k = absurd (cc)
  open_refused event.TakeDial why k = absurd (cc)
  open_refused (event.LinkUp sub) why k = absurd (cc)
  open_refused (event.DialFailed sub) why k = absurd (cc)
  open_refused event.Tick why k = absurd (cc)
  open_refused event.Shutdown why k = absurd (cc)

  unless_shut : (e : Event) (why : Refusal) → (if x.shut then Some refusal.Shut else open_refusal e x) ≡ Some why
      → (if s.shut then Some refusal.Shut else refusal_when_open e s) ≡ Some why
  unless_shut e why k = if_same x.shut s.shut (Some refusal.Shut) (open_refusal e x) (refusal_when_open e s) why (sym h.configs.shut) (open_refused e why) k

  pub refusals_same : (e : Event) (why : Refusal) → channel.refusal_of e x ≡ Some why → refusal_of e s ≡ Some why
  refusals_same (event.Take n) why k = call_refused take_refusal refl n why k
  refusals_same event.Tick why k = absurd (cc)
  refusals_same event.Shutdown why k = absurd (cc)
  refusals_same (event.Begin request) why k = unless_shut (event.Begin request) why k
  refusals_same (event.Send n message) why k = unless_shut (event.Send n message) why k
  refusals_same (event.Finish n) why k = unless_shut (event.Finish n) why k
  refusals_same (event.Cancel n) why k = unless_shut (event.Cancel n) why k
  refusals_same (event.Resolved addresses config) why k = unless_shut (event.Resolved addresses config) why k
  refusals_same event.ResolveFailed why k = unless_shut event.ResolveFailed why k
  refusals_same event.TakeDial why k = unless_shut event.TakeDial why k
  refusals_same (event.LinkUp sub) why k = unless_shut (event.LinkUp sub) why k
  refusals_same (event.DialFailed sub) why k = unless_shut (event.DialFailed sub) why k
  refusals_same (event.Arrived link piece) why k = unless_shut (event.Arrived link piece) why k
  refusals_same (event.LinkLost link) why k = unless_shut (event.LinkLost link) why k
  refusals_same (event.Drain link room) why k = unless_shut (event.Drain link room) why k
  refusals_same (event.Ping link word) why k = unless_shut (event.Ping link word) why k

-- so such an event is refused by both
refused_if_some : (x y : StateSeen) (r : Reply) (o : OpenEntry) (s : Seen) (z : Option Refusal) → channel.refusal_of o.event x ≡ z → is_some z ≡ true → Agrees x s
    → IsAt stage.Event o s → o.turn ≡ None → next_deadline s ≡ None → AnswersBy z o.event x y r → IsAnswered y r o s
refused_if_some x y r o s None e some h at fresh timely answers = absurd (cc)
refused_if_some x y r o s (Some why) e some h at fresh timely answers =
    refused_so x y r why o s h at fresh timely (ap (λ (z : Option Refusal). event_action_by z o.event s) (refusals_same x s h o.event why e)) answers.0 answers.1

pub refused_events : EventsAnswered IsRefused
refused_events x y r o s h at fresh timely some answers = refused_if_some x y r o s (channel.refusal_of o.event x) refl some h at fresh timely answers

-- a Tick is answered, and nothing else
pub ticks : EventsAnswered IsTick
ticks x y r o s h at fresh timely is answers =
    let given : (y ≡ x) × (r ≡ reply.Done) = subst (λ (e : Event). AnswersBy (channel.refusal_of e x) e x y r) is answers in
    answered_so x y r reply.Done o s event.Tick h at fresh timely is
    (record { cancels_none = λ n. refl; sends_none = λ c z. refl; no_result = refl; no_frame = λ p z. refl }) refl given.0 given.1
