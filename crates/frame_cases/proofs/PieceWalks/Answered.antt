-- A piece that arrives is answered.
use Rattle.event_cases.specs.FewStreams.Laws.{AttemptsAreFew}
use Rattle.std.proofs.Common.{◌≡◌, ◌++◌, ◌∷◌, ap, arith, refl, subst, sym, ◌∙◌, List, [], Option, None, Some, ℕ, is_some, if◌then◌else◌, not}
use Rattle.std.proofs.lemmas.List.{length-append}
use Rattle.channel_actions.proofs.Dialling.{unshut_by}
use Rattle.channel_actions.proofs.Refusing.{none_numbered}
use Rattle.channel_actions.specs.Agrees.{Agrees}
use Rattle.channel_actions.specs.Quiescent.{IsAt}
use Rattle.channel_actions.specs.Links.{HasLink, IsGoing}
use Rattle.channel_actions.specs.Stages.{IsAnswered}
use Rattle.attempt_cases.proofs.DrainEvents.Rooms.{one_some}
use Rattle.channel_core.specs.Applying as channel
use Rattle.channel_core.specs.Applying.{AnswersBy}
use Rattle.channel_core.specs.Arrivals.{piece_arrived}
use Rattle.channel_core.specs.Steps as steps
use Rattle.channel_core.specs.States.{StateSeen}
use Rattle.channel_core.specs.declared.state.links.LinkSlot.{LinkSlot}
use Rattle.frame_cases.proofs.PieceWalks.Arrives as arrives
use Rattle.frame_cases.proofs.PieceWalks.Knows.{known_with}
use Rattle.frame_cases.proofs.PieceWalks.Walk.{Walked, walk}
use Rattle.frame_cases.specs.PieceWalks.Laws.{BreaksAreHandled, FramesAreHandled, IsArrival, KnownAlongFrames, PiecesAreHandled}
use Rattle.frame_cases.specs.PieceWalks.Points.{IsReceiving, IsReadOut}
use Rattle.grpc_base.specs.declared.event.Event.{Event}
use Rattle.grpc_base.specs.declared.event.Event.TheVariants as event
use Rattle.grpc_base.specs.declared.event.Refusal.{Refusal}
use Rattle.grpc_base.specs.declared.event.Refusal.TheVariants as refusal
use Rattle.grpc_base.specs.declared.event.Reply.{Reply}
use Rattle.grpc_base.specs.declared.event.Reply.TheVariants as reply
use Rattle.h2_frame.specs.Readings.{Partial, reading_of}
use Rattle.session_actions.specs.Actions.{after}
use Rattle.session_actions.specs.CallEnds.{next_deadline}
use Rattle.session_actions.specs.Sessions.{Does}
use Rattle.session_actions.specs.Words.{numbered}
use Rattle.session_actions.specs.declared.action.Action.TheVariants as action
use Rattle.session_actions.specs.declared.entry.OpenEntry.{OpenEntry}
use Rattle.session_actions.specs.declared.entry.Stage.TheVariants as stage
use Rattle.session_actions.specs.declared.link.Link.{Link}
use Rattle.session_actions.specs.declared.seen.Seen.{Seen}

-- a link that is not refused is there
record IsUp (s : Seen) (link : ℕ) : Type 0 where
  l : Link
  here : numbered s.links link ≡ Some l

up_by : (x : StateSeen) (s : Seen) (link : ℕ) (o : Option Link) → Agrees x s → channel.link_refusal link x ≡ None → numbered s.links link ≡ o → IsUp s link
up_by x s link None h kept here =
    let none : numbered x.links link ≡ None = none_numbered s.links x.links link h.links.count here in
    absurd (let bad : Some refusal.NoSuchLink ≡ None
    = sym (ap (λ (q : Option LinkSlot). if not (is_some q) then Some refusal.NoSuchLink else if steps.is_gone link x then Some refusal.LinkGone else None) none) ∙ kept in (cc))
up_by x s link (Some l) h kept here = record { l = l; here = here }

module _ (frames : FramesAreHandled) (breaks : BreaksAreHandled) (knows : KnownAlongFrames) (few : AttemptsAreFew) (x : StateSeen) (o : OpenEntry) (s : Seen) (h : Agrees x s) (at : IsAt stage.Event o s)
    (fresh : o.turn ≡ None) (timely : next_deadline s ≡ None) (case : IsArrival o.event x s) where
  abbrev link : ℕ
  link = case.link

  abbrev piece : List ℕ
  piece = case.piece

  refusal_none : channel.link_refusal link x ≡ None
  refusal_none = (unshut_by x.shut (channel.link_refusal link x) (subst (λ (e : Event). channel.refusal_of e x ≡ None) case.event_is case.kept)).1

  up : IsUp s link
  up = up_by x s link (numbered s.links link) h refusal_none refl

  abbrev l : Link
  l = up.l

  out : IsReadOut l
  out = case.out l up.here

  abbrev p : OpenEntry
  p = arrives.p x o s h at timely link piece case.event_is case.kept l up.here out.fair.within

  abbrev t : Seen
  t = arrives.t x o s h at timely link piece case.event_is case.kept l up.here out.fair.within

  after_is : after (action.BytesArrive link) s ≡ t
  after_is = arrives.after_is x o s h at timely link piece case.event_is case.kept l up.here out.fair.within

  part_kept : (slot : LinkSlot) → numbered x.links link ≡ Some slot → l.over ≡ None → reading_of slot.link.link.rest ≡ Partial
  part_kept slot there unbroken =
      let has : HasLink x s l link = h.links.each link l up.here in
      let one : has.slot ≡ slot = one_some has.slot slot (numbered x.links link) has.there there in
      let going : IsGoing l s has.slot = has.sees.going unbroken in
      ap (λ (z : LinkSlot). reading_of z.link.link.rest) (sym one) ∙ ap reading_of (sym going.rest) ∙ out.part unbroken

  begins : IsReceiving link piece x p t
  begins = record {
    at = arrives.at_now x o s h at timely link piece case.event_is case.kept l up.here out.fair.within;
    whole = piece;
    event_is = case.event_is;
    reply = refl;
    fresh = fresh;
    l = record l { received = l.received ++ piece };
    here = arrives.there x o s h at timely link piece case.event_is case.kept l up.here out.fair.within;
    fair = record { within = (let a = out.fair.within in let long = length-append l.received piece in omega (arith, a, long)); listed = out.fair.listed };
    few = (let a = case.few l up.here in let long = length-append l.received piece in omega (arith, a, long));
    part = part_kept;
    agrees = arrives.agrees_now x o s h at timely link piece case.event_is case.kept l up.here out.fair.within;
    known = known_with x x s t (action.BytesArrive link ∷ []) h.kept case.known (arrives.next x o s h at timely link piece case.event_is case.kept l up.here out.fair.within, sym after_is) refl refl
        (λ goes. goes) (λ sound. sound) (λ goes held. held);
  }

  walked : Walked (piece_arrived link piece x) p t
  walked = walk frames breaks knows few link piece 0 x p t begins

  pub piece_answered : IsAnswered (piece_arrived link piece x) reply.Done o s
  piece_answered = record {
    reaches = record {
      actions = action.BytesArrive link ∷ walked.actions;
      seen = walked.seen;
      entry = walked.entry;
      does = (arrives.next x o s h at timely link piece case.event_is case.kept l up.here out.fair.within, subst (λ (z : Seen). Does walked.actions z walked.seen) (sym after_is) walked.does);
      posts = walked.posts;
      same = record {
        moment = walked.same.moment;
        word = walked.same.word;
        event = walked.same.event;
        entries = walked.same.entries;
        setup = walked.same.setup;
      };
      at = walked.at;
      agrees = walked.agrees;
    };
    reply = walked.reply;
    fresh = walked.fresh;
    none = walked.none;
  }

pub pieces_are_handled : AttemptsAreFew → PiecesAreHandled
pieces_are_handled few frames breaks knows x y r o s h at fresh timely case answers =
    let given : AnswersBy None (event.Arrived case.link case.piece) x y r
    = subst (λ (e : Event). AnswersBy None e x y r) case.event_is (subst (λ (z : Option Refusal). AnswersBy z o.event x y r) case.kept answers) in
    subst (λ (z : StateSeen). IsAnswered z r o s) (sym given.0)
    (subst (λ (z : Reply). IsAnswered (piece_arrived case.link case.piece x) z o s) (sym given.1) (piece_answered frames breaks knows few x o s h at fresh timely case))
