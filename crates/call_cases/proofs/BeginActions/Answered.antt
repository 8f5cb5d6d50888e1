-- A Begin is answered: CallBegins follows, and nothing follows at once from it.
use Rattle.call_cases.proofs.BeginActions.Agreeing.{agrees_now, here, ledger_is}
use Rattle.call_cases.proofs.BeginActions.New.{answered, before, does_so, have_calls, later, number}
use Rattle.call_cases.proofs.BeginActions.Table.{begun_so, begun_with, reply_is}
use Rattle.call_cases.specs.BeginActions.Laws.{BeginsAreAnswered}
use Rattle.call_core.specs.Steps as steps
use Rattle.call_core.specs.Steps.{deadline_at}
use Rattle.channel_actions.proofs.Answering.{event_next}
use Rattle.channel_actions.proofs.Dialling.{applied_next, open_in, unshut_by}
use Rattle.channel_actions.proofs.Resting.{of_order, to_order}
use Rattle.channel_actions.proofs.Settles.{is_with_open, with_open}
use Rattle.channel_actions.specs.Agrees.{Agrees}
use Rattle.channel_actions.specs.Quiescent.{IsAt, IsQuiescent}
use Rattle.channel_actions.specs.Stages.{IsAnswered}
use Rattle.channel_core.specs.Applying as channel
use Rattle.channel_core.specs.Applying.{AnswersBy}
use Rattle.channel_core.specs.States.{StateSeen}
use Rattle.channel_core.specs.Steps.{begun}
use Rattle.grpc_base.specs.Requests.{RequestSeen}
use Rattle.grpc_base.specs.declared.event.Event.TheVariants as event
use Rattle.grpc_base.specs.declared.event.Event.{Event}
use Rattle.grpc_base.specs.declared.event.Refusal.{Refusal}
use Rattle.grpc_base.specs.declared.event.Reply.TheVariants as reply
use Rattle.grpc_base.specs.declared.event.Reply.{Reply}
use Rattle.channel_actions.specs.KeptSessions.Kept.{IsKept}
use Rattle.call_cases.specs.OtherCalls.Laws.{AllCallsStay, SetsStay}
use Rattle.session_actions.specs.Actions.{after, following}
use Rattle.session_actions.specs.CallEnds.{next_deadline}
use Rattle.session_actions.specs.Events.{event_action, frame_of_event}
use Rattle.session_actions.specs.declared.action.Action.TheVariants as action
use Rattle.session_actions.specs.declared.entry.OpenEntry.{OpenEntry}
use Rattle.session_actions.specs.declared.entry.Stage.TheVariants as stage
use Rattle.session_actions.specs.declared.seen.Seen.{Seen}
use Rattle.session_order.specs.Laws.{CallsStir, QuiescenceIsExact}
use Rattle.channel_actions.specs.SetFrames.Laws.{PairsComeIn, TestsAreSame}
use Rattle.std.proofs.Common.{None, Option, Some, [], ap, false, refl, subst, sym, ◌∙◌, ◌∷◌, ◌≡◌}

quiescent_after : QuiescenceIsExact → CallsStir → (o : OpenEntry) (z : Seen) (request : RequestSeen) → o.event ≡ event.Begin request → z.shut ≡ false → IsKept (before o z request)
    → IsQuiescent o (before o z request) → IsQuiescent (answered o z request) (later o z request)
quiescent_after exact stir o z request is unshut kept quiescent =
    let s : Seen = before o z request in
    let p : OpenEntry = answered o z request in
    let gone : after action.CallBegins s ≡ later o z request = does_so o z request is in
    subst (IsQuiescent p) gone
    (of_order exact p (after action.CallBegins s)
    (λ l. stir.begun o s refl (request, is, unshut, have_calls s kept) l p (ap (λ (v : Seen). v.current) gone) refl (to_order exact o s quiescent l)))

module _ (exact : QuiescenceIsExact) (stir : CallsStir) (others : AllCallsStay) (sets : SetsStay) (comes : PairsComeIn) (same : TestsAreSame)
    (o : OpenEntry) (z : Seen) (request : RequestSeen) (x : StateSeen) (h : Agrees x (before o z request)) (at : IsAt stage.Event o (before o z request)) (fresh : o.turn ≡ None)
    (timely : next_deadline (before o z request) ≡ None) (is : o.event ≡ event.Begin request) (kept : channel.refusal_of o.event x ≡ None) where
  abbrev s : Seen
  s = before o z request

  abbrev t : Seen
  t = later o z request

  unshut : z.shut ≡ false
  unshut = h.configs.shut ∙ (unshut_by x.shut None (subst (λ (e : Event). channel.refusal_of e x ≡ None) is kept)).0

  gives : event_action o.event s ≡ Some action.CallBegins
  gives = ap (λ (e : Event). event_action e s) is ∙ applied_next (event.Begin request) s (Some action.CallBegins) (open_in s None unshut) refl

  next : following s ≡ Some action.CallBegins
  next = event_next o s at timely action.CallBegins gives

  abbrev y : StateSeen
  y = begun_with (number o z request) (deadline_at (steps.new_call (number o z request) request x.book.moment)) request x

  begins : IsAnswered y (reply.Call (number o z request)) o s
  begins = record {
    reaches = record {
      actions = action.CallBegins ∷ [];
      seen = t;
      entry = answered o z request;
      does = (next, sym (does_so o z request is));
      posts = refl;
      same = record { moment = refl; word = refl; event = refl; entries = refl; setup = refl };
      at = record { current = refl; stage_is = refl; quiescent = quiescent_after exact stir o z request is unshut h.kept at.quiescent };
      agrees = agrees_now others sets comes same o z request x h is next;
    };
    reply = refl;
    fresh = fresh;
    none = ap (λ (e : Event). frame_of_event e (answered o z request) t) is;
  }

  state_is : begun request x ≡ y
  state_is = begun_so x request (number o z request) (ledger_is others sets comes same o z request x h is next) (here others sets comes same o z request x h is next)

  pub begin_so : (v : StateSeen) (r : Reply) → AnswersBy (channel.refusal_of o.event x) o.event x v r → IsAnswered v r o s
  begin_so v r answers =
      let given : AnswersBy None (event.Begin request) x v r
      = subst (λ (e : Event). AnswersBy None e x v r) is (subst (λ (q : Option Refusal). AnswersBy q o.event x v r) kept answers) in
      subst (λ (w : StateSeen). IsAnswered w r o s) (sym (given.0 ∙ state_is))
      (subst (λ (q : Reply). IsAnswered y q o s) (sym (given.1 ∙ reply_is x request (number o z request) (ledger_is others sets comes same o z request x h is next) (here others sets comes same o z request x h is next))) begins)

pub begins_answered : QuiescenceIsExact → CallsStir → AllCallsStay → SetsStay → PairsComeIn → TestsAreSame → BeginsAreAnswered
begins_answered exact stir others sets comes same x y r o s h at fresh timely case answers =
    let open_ : s ≡ with_open o s = is_with_open o s at.current in
    subst (λ (v : Seen). IsAnswered y r o v) (sym open_)
    (begin_so exact stir others sets comes same o s case.request x (subst (Agrees x) open_ h) (subst (IsAt stage.Event o) open_ at) fresh
    (ap next_deadline (sym open_) ∙ timely) case.event_is case.kept y r answers)
