-- What is left of each stage, once the cases that are proved are taken out.
use Rattle.std.proofs.Common.{◌≡◌, ◌||◌, inl, inr, ap, refl, ◌∙◌, Bool, true, false, Option, None, Some, ℕ, is_none, is_some}
use Rattle.channel_actions.proofs.Dialling.{no_dials, refused_dials, unresolved_events}
use Rattle.channel_actions.proofs.Idleness.Settlings.{idle_settlings}
use Rattle.channel_actions.proofs.Refusing.{refused_events, ticks}
use Rattle.channel_actions.proofs.Timely.{in_time}
use Rattle.channel_actions.specs.Agrees.{Agrees}
use Rattle.channel_actions.specs.Quiescent.{IsAt}
use Rattle.channel_actions.specs.Cases.{DoesSomething, HasDue, HasOverdue, does_something, has_due}
use Rattle.channel_actions.specs.HeldTexts.Fits.{TextsFit}
use Rattle.channel_actions.specs.Known.{IsKnown}
use Rattle.channel_actions.specs.Posted.{IsPosted}
use Rattle.channel_actions.specs.Stages.{Deadlines, DeadlinesOf, Events, EventsAnswered, IsAnswered, IsSettled, IsTimely, Settlings, SettlingsOf}
use Rattle.channel_core.specs.Applying as channel
use Rattle.channel_core.specs.Applying.{AnswersBy}
use Rattle.channel_core.specs.States.{StateSeen}
use Rattle.channel_net.specs.Steps.{dial_refusal}
use Rattle.grpc_base.specs.declared.event.Event.{Event}
use Rattle.grpc_base.specs.declared.event.Event.TheVariants as event
use Rattle.grpc_base.specs.declared.event.Refusal.{Refusal}
use Rattle.grpc_base.specs.declared.event.Reply.{Reply}
use Rattle.net_actions.specs.Laws.{ClockChanges, NoneToDial, StatesAreSame, TakeOversAreSame, WishesConnect}
use Rattle.session_actions.specs.Actions.{config_action}
use Rattle.session_actions.specs.CallEnds.{next_deadline}
use Rattle.session_actions.specs.Making.{next_due_attempt}
use Rattle.session_actions.specs.Policies.{next_of_queue, next_take_over}
use Rattle.session_actions.specs.Subchannels.{next_connected, next_of_clock}
use Rattle.session_actions.specs.Words.{first_of}
use Rattle.session_actions.specs.declared.action.Action.{Action}
use Rattle.session_actions.specs.declared.entry.OpenEntry.{OpenEntry}
use Rattle.session_actions.specs.declared.entry.Stage.TheVariants as stage
use Rattle.session_actions.specs.declared.seen.Seen.{Seen}
use Rattle.subchannel.specs.Boards.{first_number, numbered}
use Rattle.subchannel.specs.Records.{is_dialable}

-- deadlines: none, or some
deadline_by : DeadlinesOf (λ x s. HasOverdue x s × IsKnown x s) → (x : StateSeen) (o : OpenEntry) (s : Seen) → Agrees x s → IsAt stage.Event o s → IsKnown x s → (a : Option Action) → next_deadline s ≡ a → IsTimely x o s
deadline_by overdue x o s h at known None e = in_time x o s h at e
deadline_by overdue x o s h at known (Some a) e = overdue x o s h at (ap (λ (z : Option Action). is_some z) e, known)

pub deadlines_split : DeadlinesOf (λ x s. HasOverdue x s × IsKnown x s) → Deadlines
deadlines_split overdue x o s h at known = deadline_by overdue x o s h at known (next_deadline s) refl

-- events: refused, or answered with nothing done, or the rest
module _ (none_to_dial : NoneToDial) (rest : EventsAnswered (λ e x s. DoesSomething e x s × IsPosted e × IsKnown x s)) (x y : StateSeen) (r : Reply) (o : OpenEntry) (s : Seen) (h : Agrees x s)
    (at : IsAt stage.Event o s) (fresh : o.turn ≡ None) (timely : next_deadline s ≡ None) (posted : IsPosted o.event) (known : IsKnown x s) (answers : AnswersBy (channel.refusal_of o.event x) o.event x y r) where
  does_more : channel.refusal_of o.event x ≡ None → does_something o.event x ≡ true → IsAnswered y r o s
  does_more kept does = rest x y r o s h at fresh timely (record { kept = kept; does = does }, posted, known) answers

  dial_by : (d : Option ℕ) → first_number is_dialable x.net.board ≡ d → channel.refusal_of o.event x ≡ None → o.event ≡ event.TakeDial → IsAnswered y r o s
  dial_by None e kept is = no_dials none_to_dial x y r o s h at fresh timely (record { event_is = is; kept = kept; none = e }) answers
  dial_by (Some d) e kept is =
      does_more kept (ap (λ (v : Event). does_something v x) is ∙ ap (λ (z : Option ℕ). is_some z) e)

  up_by : (sub : ℕ) (d : Option Refusal) → dial_refusal (numbered x.net.board sub) ≡ d → channel.refusal_of o.event x ≡ None → o.event ≡ event.LinkUp sub → IsAnswered y r o s
  up_by sub None e kept is = does_more kept (ap (λ (v : Event). does_something v x) is ∙ ap (λ (z : Option Refusal). is_none z) e)
  up_by sub (Some why) e kept is =
      refused_dials x y r o s h at fresh timely (record { sub = sub; event_is = inl is; kept = kept; refused = ap (λ (z : Option Refusal). is_some z) e }) answers

  failed_by : (sub : ℕ) (d : Option Refusal) → dial_refusal (numbered x.net.board sub) ≡ d → channel.refusal_of o.event x ≡ None → o.event ≡ event.DialFailed sub → IsAnswered y r o s
  failed_by sub None e kept is = does_more kept (ap (λ (v : Event). does_something v x) is ∙ ap (λ (z : Option Refusal). is_none z) e)
  failed_by sub (Some why) e kept is =
      refused_dials x y r o s h at fresh timely (record { sub = sub; event_is = inr is; kept = kept; refused = ap (λ (z : Option Refusal). is_some z) e }) answers

  event_by : (e : Event) → o.event ≡ e → channel.refusal_of o.event x ≡ None → IsAnswered y r o s
  event_by event.Tick is kept = ticks x y r o s h at fresh timely is answers
  event_by event.ResolveFailed is kept = unresolved_events x y r o s h at fresh timely (record { event_is = is; kept = kept }) answers
  event_by event.TakeDial is kept = dial_by (first_number is_dialable x.net.board) refl kept is
  event_by (event.LinkUp sub) is kept = up_by sub (dial_refusal (numbered x.net.board sub)) refl kept is
  event_by (event.DialFailed sub) is kept = failed_by sub (dial_refusal (numbered x.net.board sub)) refl kept is
  event_by _ is kept = does_more kept (ap (λ (v : Event). does_something v x) is)

  refusal_by : (z : Option Refusal) → channel.refusal_of o.event x ≡ z → IsAnswered y r o s
  refusal_by None e = event_by o.event refl e
  refusal_by (Some why) e = refused_events x y r o s h at fresh timely (ap (λ (z : Option Refusal). is_some z) e) answers

  pub event_answered : IsAnswered y r o s
  event_answered = refusal_by (channel.refusal_of o.event x) refl

pub events_split : NoneToDial → EventsAnswered (λ e x s. DoesSomething e x s × IsPosted e × IsKnown x s) → Events
events_split none_to_dial rest x y r o s h at fresh timely case answers = event_answered none_to_dial rest x y r o s h at fresh timely case.0 case.1 answers

-- settlings: nothing is due, or something
none_by : {X : Type 0} (o : Option X) → is_some o ≡ false → o ≡ None
none_by None e = refl
none_by (Some z) e = absurd (cc)

or_none : (a b : Bool) → (a || b) ≡ false → (a ≡ false) × (b ≡ false)
or_none true b e = absurd (cc)
or_none false b e = (refl, e)

module _ (clocks : ClockChanges) (overs : TakeOversAreSame) (wishes : WishesConnect) (states : StatesAreSame) (rest : SettlingsOf (λ x s. HasDue x s × TextsFit x s × IsKnown x s)) (x : StateSeen) (o : OpenEntry)
    (s : Seen) (h : Agrees x s) (at : IsAt stage.Settling o s) (fresh : o.turn ≡ None) (texts : TextsFit x s) (known : IsKnown x s) where
  settled_by : (b : Bool) → has_due s ≡ b → IsSettled x o s
  settled_by true e = rest x o s h at fresh (e, texts, known)
  settled_by false e =
      let one = or_none (is_some (next_of_clock s)) _ e in
      let two = or_none (is_some (next_take_over s)) _ one.1 in
      let three = or_none (is_some (next_connected s)) _ two.1 in
      let four = or_none (is_some (first_of (config_action s) s.calls)) _ three.1 in
      let five = or_none (is_some (next_due_attempt s)) (is_some (next_of_queue s)) four.1 in
      idle_settlings clocks overs wishes states x o s h at fresh (record {
        clock = none_by (next_of_clock s) one.0;
        take_over = none_by (next_take_over s) two.0;
        connected = none_by (next_connected s) three.0;
        configs = none_by (first_of (config_action s) s.calls) four.0;
        due = none_by (next_due_attempt s) five.0;
        queue = none_by (next_of_queue s) five.1;
      })

pub settlings_split : ClockChanges → TakeOversAreSame → WishesConnect → StatesAreSame → SettlingsOf (λ x s. HasDue x s × TextsFit x s × IsKnown x s) → Settlings
settlings_split clocks overs wishes states rest x o s h at fresh case = settled_by clocks overs wishes states rest x o s h at fresh case.0 case.1 (has_due s) refl
