-- The application finishes its request.
use Rattle.call_core.specs.Steps as steps
use Rattle.call_core.specs.Steps.{Stepped}
use Rattle.call_core.specs.declared.state.CallState.{CallState}
use Rattle.call_cases.proofs.CallPosts.Answered.{Posted, posted, put_is, put_none, to_order, reported_answered}
use Rattle.call_cases.specs.CallPosts.Cases.{IsFinish}
use Rattle.channel_actions.proofs.Answering.{plain_frame, refused_so, replied_entry}
use Rattle.channel_actions.proofs.Dialling.{unshut_by}
use Rattle.channel_actions.proofs.Settles.{is_with_open, with_open}
use Rattle.channel_actions.specs.Agrees.{Agrees}
use Rattle.channel_actions.specs.Calls.{SeesCall, lent_to}
use Rattle.channel_actions.specs.Quiescent.{IsAt}
use Rattle.channel_actions.specs.Stages.{EventsAnswered, IsAnswered}
use Rattle.channel_core.specs.Applying as channel
use Rattle.channel_core.specs.Applying.{AnswersBy}
use Rattle.channel_core.specs.Arrivals.{finished_by}
use Rattle.channel_core.specs.Books.{lacks_call, slot_at}
use Rattle.channel_core.specs.States.{StateSeen}
use Rattle.channel_core.specs.Tables.{changed_call, finish_reply_of}
use Rattle.channel_core.specs.declared.state.slots.CallSlot.{CallSlot}
use Rattle.grpc_base.specs.declared.event.Event.{Event}
use Rattle.grpc_base.specs.declared.event.Event.TheVariants as event
use Rattle.grpc_base.specs.declared.event.Refusal.{Refusal}
use Rattle.grpc_base.specs.declared.event.Reply.{Reply}
use Rattle.grpc_base.specs.declared.event.Reply.TheVariants as reply
use Rattle.channel_actions.specs.KeptSessions.Laws.{KeptAlong}
use Rattle.session_actions.specs.CallEnds.{next_deadline}
use Rattle.session_actions.specs.Events.{event_action, event_action_by}
use Rattle.session_actions.specs.Deliveries.{request_finished}
use Rattle.session_actions.specs.Words.{numbered}
use Rattle.session_actions.specs.declared.action.Action.TheVariants as action
use Rattle.session_actions.specs.declared.call.Call.{Call}
use Rattle.session_actions.specs.declared.entry.OpenEntry.{OpenEntry}
use Rattle.session_actions.specs.declared.entry.Stage.TheVariants as stage
use Rattle.session_actions.specs.declared.seen.Seen.{Seen}
use Rattle.session_order.proofs.Posts.{finished_leaves}
use Rattle.std.proofs.Common.{List, None, Option, Some, ap, arith, false, is_some, refl, subst, sym, true, ℕ, ◌∙◌, ◌≡◌}
use Rattle.std.proofs.lemmas.Bool.{eq-eqb}
use Rattle.call_actions.proofs.TakeActions.Posted.{refusal_by, refused_by, serves_done, session_refusal}
use Rattle.call_actions.specs.TakeActions.Laws.{IsPosted}
use Rattle.call_actions.specs.TakeActions.Serves.{Serves}

module _ (along : KeptAlong) (x : StateSeen) (o : OpenEntry) (s0 : Seen) (h : Agrees x (with_open o s0)) (at : IsAt stage.Event o (with_open o s0)) (fresh : o.turn ≡ None)
    (timely : next_deadline (with_open o s0) ≡ None) (c : Call) (slot : CallSlot) (own : numbered s0.calls c.number ≡ Some c) (there : slot_at x.book c.number ≡ Some slot)
    (sees : SeesCall x (with_open o s0) c slot) (is : o.event ≡ event.Finish c.number) (unshut : s0.shut ≡ false) where
  abbrev u : Seen
  u = with_open o s0

  abbrev st : Stepped
  st = lent_to x u slot

  gives : (z : Option Refusal) → refusal_by (is_some c.end) c.finished ≡ z → event_action o.event u ≡ event_action_by z (event.Finish c.number) u
  gives z e =
      ap (λ (v : Event). event_action v u) is ∙ ap (λ (w : Option Refusal). event_action_by w (event.Finish c.number) u) (session_refusal u c st sees.serves unshut z e)

  abbrev Done : Type 0
  Done = IsAnswered (finished_by c.number x).state (finished_by c.number x).reply o u

  -- refused
  finish_refused : (why : Refusal) → refusal_by (is_some c.end) c.finished ≡ Some why → Done
  finish_refused why e =
      let reported_why : steps.send_refusal slot.call ≡ Some why = refused_by u c st sees.serves (Some why) e in
      let same : steps.finished slot.call ≡ slot.call = ap (λ (z : Option Refusal). steps.finished_if z slot.call) reported_why in
      refused_so x (finished_by c.number x).state (finished_by c.number x).reply why o u h at fresh timely (gives (Some why) e)
      (ap (λ (calls : List CallSlot). record x { book = record x.book { calls = calls } }) (put_none steps.finished x.book.calls c.number slot there same))
      (ap finish_reply_of there ∙ ap steps.finish_reply_if reported_why)

  -- or done
  abbrev p0 : IsPosted (event.Finish c.number) u
  p0 = record { entry = o; current = refl; event_is = is }

  finish_accepted : refusal_by (is_some c.end) c.finished ≡ None → Done
  finish_accepted e =
      let reported_none : steps.send_refusal slot.call ≡ None = refused_by u c st sees.serves None e in
      let becomes : record slot.call { is_finished = true } ≡ steps.finished slot.call = sym (ap (λ (z : Option Refusal). steps.finished_if z slot.call) reported_none) in
      let done : IsAnswered (finished_by c.number x).state reply.Done o u
      = reported_answered along s0 o reply.Done c (λ (k : Call). k.messages) (λ (k : Call). true) (λ (k : Call). k.taken) (λ (k : Call). k.end_taken) (λ d. omega arith)
      x h slot own sees (steps.finished slot.call) (changed_call steps.finished x.book.calls c.number) (put_is steps.finished x.book.calls c.number slot there)
      (subst (λ (z : CallState). Serves (request_finished c.number u) (record c { finished = true }) (record st { call = z })) becomes (serves_done u c st p0 unshut sees.serves))
      (action.RequestFinished c.number) refl (record { acts = eq-eqb c.number c.number refl; passes = λ d mine off. refl })
      at fresh timely (gives None e) (λ z. z) refl
      (λ l. finished_leaves c.number o u refl is l (replied_entry reply.Done o) refl refl (to_order o u at.quiescent l))
      (plain_frame reply.Done o (request_finished c.number u) (event.Finish c.number) is (record { cancels_none = λ n. refl; sends_none = λ d z. refl; no_result = refl; no_frame = λ q z. refl })) in
      subst (λ (r : Reply). IsAnswered (finished_by c.number x).state r o u) (sym (ap finish_reply_of there ∙ ap steps.finish_reply_if reported_none)) done

  finish_by : (z : Option Refusal) → refusal_by (is_some c.end) c.finished ≡ z → Done
  finish_by (Some why) e = finish_refused why e
  finish_by None e = finish_accepted e

  pub finish_done : Done
  finish_done = finish_by (refusal_by (is_some c.end) c.finished) refl

pub finishes : KeptAlong → EventsAnswered IsFinish
finishes along x y r o s h at fresh timely case answers =
    let e : s ≡ with_open o s = is_with_open o s at.current in
    let kept : (x.shut ≡ false) × (lacks_call (slot_at x.book case.call) ≡ None)
    = unshut_by x.shut (lacks_call (slot_at x.book case.call)) (subst (λ (v : Event). channel.refusal_of v x ≡ None) case.event_is case.kept) in
    let given : AnswersBy None (event.Finish case.call) x y r
    = subst (λ (v : Event). AnswersBy None v x y r) case.event_is (subst (λ (z : Option Refusal). AnswersBy z o.event x y r) case.kept answers) in
    let now : Agrees x (with_open o s) = subst (Agrees x) e h in
    let k : Posted x (with_open o s) case.call = posted x (with_open o s) now case.call kept.1 in
    let same : case.call ≡ k.call.number = sym k.number_is in
    let done : IsAnswered (finished_by k.call.number x).state (finished_by k.call.number x).reply o (with_open o s)
    = finish_done along x o s now (subst (IsAt stage.Event o) e at) fresh (subst (λ (z : Seen). next_deadline z ≡ None) e timely) k.call k.slot
    (ap (numbered s.calls) k.number_is ∙ k.at) (ap (slot_at x.book) k.number_is ∙ k.there) k.sees (case.event_is ∙ ap event.Finish same) (h.configs.shut ∙ kept.0) in
    let here : IsAnswered y r o (with_open o s)
    = subst (λ (z : StateSeen). IsAnswered z r o (with_open o s)) (sym (given.0 ∙ ap (λ (n : ℕ). (finished_by n x).state) same))
    (subst (λ (z : Reply). IsAnswered (finished_by k.call.number x).state z o (with_open o s)) (sym (given.1 ∙ ap (λ (n : ℕ). (finished_by n x).reply) same)) done) in
    subst (IsAnswered y r o) (sym e) here
