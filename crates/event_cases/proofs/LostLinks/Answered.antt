-- The event of a lost link is answered.
use Rattle.std.proofs.Common.{◌≡◌, ◌++◌, ◌<◌, ap, refl, subst, sym, ◌∙◌, Bool, true, false, List, Option, None, ℕ, if◌then◌else◌, length}
use Rattle.channel_actions.proofs.BoardActions.Quiescent.{of_order}
use Rattle.channel_actions.proofs.Does.{does_on, none_on}
use Rattle.channel_actions.specs.Agrees.{Agrees}
use Rattle.channel_actions.specs.Quiescent.{IsAt}
use Rattle.channel_actions.specs.GoingCalls.Laws.{LossesGoOn}
use Rattle.channel_actions.specs.Stages.{IsAnswered}
use Rattle.event_cases.proofs.LostLinks.Downs.{after_, loss_goes_on, lost, lost_over, own, q}
use Rattle.event_cases.proofs.LostLinks.Over.{GoesOver}
use Rattle.event_cases.proofs.LostLinks.OverAgrees.{actions, dn, does}
use Rattle.event_cases.proofs.LostLinks.OverStarts.{attempts_same}
use Rattle.event_cases.proofs.LostLinks.Walk.{losses_end_in_turn}
use Rattle.end_cases.specs.AttemptEnds.Laws.{EndsStayHeld, OneAttemptEnds}
use Rattle.event_cases.specs.LostLinks.Laws.{LostLinksAreAnswered}
use Rattle.event_cases.specs.LostLinks.Losses.{HasLost, IsLostLink}
use Rattle.channel_core.specs.Applying.{AnswersBy}
use Rattle.channel_core.specs.Arrivals.{lost as lose}
use Rattle.channel_core.specs.States.{StateSeen}
use Rattle.channel_core.specs.Steps.{marked_dead}
use Rattle.grpc_base.specs.declared.event.Event.{Event}
use Rattle.grpc_base.specs.declared.event.Event.TheVariants as event
use Rattle.grpc_base.specs.declared.event.Refusal.{Refusal}
use Rattle.grpc_base.specs.declared.event.Reply.{Reply}
use Rattle.grpc_base.specs.declared.event.Reply.TheVariants as reply
use Rattle.session_actions.specs.CallEnds.{is_after_event, next_deadline}
use Rattle.session_actions.specs.Events.{frame_of_event}
use Rattle.session_actions.specs.declared.action.Action.TheVariants as action
use Rattle.session_actions.specs.declared.action.Action.{Action}
use Rattle.session_actions.specs.declared.attempt.Attempt.{Attempt}
use Rattle.session_actions.specs.declared.entry.OpenEntry.{OpenEntry}
use Rattle.session_actions.specs.declared.entry.Stage.TheVariants as stage
use Rattle.session_actions.specs.declared.link.LinkOver.TheVariants as over
use Rattle.session_actions.specs.declared.seen.Seen.{Seen}
use Rattle.session_order.proofs.Quiescence.{quiescence_is_exact}

none_if : (q : Option Action) → q ≡ None → (b : Bool) → (if b then q else None) ≡ None
none_if q none true = none
none_if q none false = refl

module _ (losses : LossesGoOn) (ends : OneAttemptEnds) (stays : EndsStayHeld) (x : StateSeen) (o : OpenEntry) (s : Seen) (h : Agrees x s) (at : IsAt stage.Event o s) (fresh : o.turn ≡ None)
    (timely : next_deadline s ≡ None) (case : IsLostLink o.event x s) where
  abbrev link : ℕ
  link = case.link

  abbrev t : Seen
  t = after_ x o s h at timely case.known.own case.known.early link case.event_is case.kept

  abbrev p : OpenEntry
  p = q x o s h at timely case.known.own case.known.early link case.event_is case.kept

  abbrev over_ : GoesOver over.Lost (action.LinkLost link) link x o s
  over_ = lost_over x o s h at timely case.known.own case.known.early link case.event_is case.kept

  abbrev those : List Action
  those = actions over.Lost (action.LinkLost link) link x o s over_

  number : (lost x o s h at timely case.known.own case.known.early link case.event_is case.kept).number ≡ link
  number = own x o s h at timely case.known.own case.known.early link case.event_is case.kept

  rows_same : t.attempts ≡ s.attempts
  rows_same = attempts_same over.Lost (action.LinkLost link) link x o s over_

  few : length t.attempts < 18446744073709551615
  few = subst (λ (xs : List Attempt). length xs < 18446744073709551615) (sym rows_same) case.few

  ended : HasLost link (marked_dead link x) p t
  ended =
      subst (λ (n : ℕ). HasLost n (marked_dead link x) p t) number
      (losses_end_in_turn losses stays ends (lost x o s h at timely case.known.own case.known.early link case.event_is case.kept) (marked_dead link x) p t
      (loss_goes_on x o s h at timely case.known.own case.known.early link case.event_is case.kept case.known.prefaced case.known.streams case.rising case.known.going case.held) few)

  pub lost_answered : IsAnswered (lose link true x) reply.Done o s
  lost_answered = record {
    reaches = record {
      actions = those ++ ended.actions;
      seen = ended.seen;
      entry = ended.entry;
      does = does_on those ended.actions s t ended.seen (does over.Lost (action.LinkLost link) link x o s over_) ended.does;
      posts = none_on those ended.actions (dn over.Lost (action.LinkLost link) link x o s over_).posts ended.posts;
      same = record {
        moment = ended.same.moment;
        word = ended.same.word;
        event = ended.same.event;
        entries = ended.same.entries ∙ ap (λ (z : Seen). z.entries) (dn over.Lost (action.LinkLost link) link x o s over_).boarded;
        setup = ended.same.setup ∙ ap (λ (z : Seen). z.setup) (dn over.Lost (action.LinkLost link) link x o s over_).boarded;
      };
      at = record { current = ended.current; stage_is = ended.stage_is; quiescent = of_order quiescence_is_exact ended.entry ended.seen ended.quiescent };
      agrees = ended.agrees;
    };
    reply = ended.reply;
    fresh = ended.turn ∙ fresh;
    none = ap (λ (e : Event). if is_after_event ended.entry then frame_of_event e ended.entry ended.seen else None) (ended.same.event ∙ case.event_is) ∙ none_if None refl (is_after_event ended.entry);
  }

pub lost_links_are_answered : LossesGoOn → EndsStayHeld → LostLinksAreAnswered
lost_links_are_answered losses stays ends x y r o s h at fresh timely case answers =
    let given : AnswersBy None (event.LinkLost case.link) x y r
    = subst (λ (e : Event). AnswersBy None e x y r) case.event_is (subst (λ (z : Option Refusal). AnswersBy z o.event x y r) case.kept answers) in
    subst (λ (z : StateSeen). IsAnswered z r o s) (sym given.0)
    (subst (λ (z : Reply). IsAnswered (lose case.link true x) z o s) (sym given.1) (lost_answered losses ends stays x o s h at fresh timely case))
