-- An event that one action of a subchannel answers.
use Rattle.std.proofs.Common.{◌≡◌, ◌∷◌, ap, refl, sym, ◌∙◌, [], None, Some, ℕ}
use Rattle.channel_actions.proofs.Answering.{IsPlain, event_next, plain_frame}
use Rattle.channel_actions.proofs.BoardActions.Quiescent.{of_order}
use Rattle.channel_actions.specs.Agrees.{Agrees}
use Rattle.channel_actions.specs.Quiescent.{IsAt}
use Rattle.channel_actions.specs.Stages.{IsAnswered}
use Rattle.channel_core.specs.States.{StateSeen}
use Rattle.grpc_base.specs.declared.event.Event.{Event}
use Rattle.grpc_base.specs.declared.event.Reply.{Reply}
use Rattle.channel_actions.specs.BoardActions.Boards.{IsBoarded}
use Rattle.session_actions.specs.Actions.{after, following}
use Rattle.session_actions.specs.CallEnds.{next_deadline}
use Rattle.session_actions.specs.Events.{event_action}
use Rattle.session_actions.specs.Laws.{posted_in}
use Rattle.session_actions.specs.Sessions.{IsNext}
use Rattle.session_actions.specs.declared.action.Action.{Action}
use Rattle.session_actions.specs.declared.entry.OpenEntry.{OpenEntry}
use Rattle.session_actions.specs.declared.entry.Stage.TheVariants as stage
use Rattle.session_actions.specs.declared.seen.Seen.{Seen}
use Rattle.session_order.specs.Quiescent as order
use Rattle.session_order.specs.Laws.{QuiescenceIsExact}

-- the entry, answered, with so many draws
abbrev pub answered_at : Reply → ℕ → OpenEntry → OpenEntry
answered_at r drawn o = record o { stage = stage.Replied; reply = Some r; drawn = drawn }

module _ (exact : QuiescenceIsExact) (y : StateSeen) (r : Reply) (o : OpenEntry) (s : Seen) (at : IsAt stage.Event o s) (fresh : o.turn ≡ None)
    (timely : next_deadline s ≡ None) (a : Action) (t : Seen) (drawn : ℕ) (v : Event) (plain : IsPlain v) (brings : o.event ≡ v) (gives : event_action v s ≡ Some a)
    (next_is : following s ≡ Some a → IsNext a s) (posts : posted_in (a ∷ []) ≡ []) (does : after a s ≡ t) (boarded : IsBoarded s t)
    (on : t.current ≡ Some (answered_at r drawn o)) (still : order.IsQuiescent (answered_at r drawn o) t) (agrees : Agrees y t) where
  pub answered_by_one : IsAnswered y r o s
  answered_by_one = record {
    reaches = record {
      actions = a ∷ [];
      seen = t;
      entry = answered_at r drawn o;
      does = (next_is (event_next o s at timely a (ap (λ (e : Event). event_action e s) brings ∙ gives)), sym does);
      posts = posts;
      same = record {
        moment = refl;
        word = refl;
        event = refl;
        entries = ap (λ (u : Seen). u.entries) boarded;
        setup = ap (λ (u : Seen). u.setup) boarded;
      };
      at = record { current = on; stage_is = refl; quiescent = of_order exact (answered_at r drawn o) t still };
      agrees = agrees;
    };
    reply = refl;
    fresh = fresh;
    none = plain_frame r (record o { drawn = drawn }) t v brings plain;
  }
