-- The application finishes its request, or gives the call up; and what a message is refused for.
use Rattle.std.proofs.Common.{◌≡◌, ap, refl, subst, sym, ◌∙◌, Bool, true, false, List, Option, None, Some, if◌then◌else◌, is_some}
use Rattle.std.specs.Option.{option_map}
use Rattle.attempt_ledger.specs.declared.ledger.CallEnd.{CallEnd}
use Rattle.call_actions.proofs.Unconfigured.{some_still}
use Rattle.call_core.specs.Laws as channel
use Rattle.call_core.specs.Steps as steps
use Rattle.call_core.specs.Steps.{Stepped}
use Rattle.call_core.specs.declared.state.CallState.{CallState}
use Rattle.grpc_base.specs.declared.event.EndCause.{EndCause}
use Rattle.grpc_base.specs.declared.event.Event.TheVariants as event
use Rattle.grpc_base.specs.declared.event.Refusal.{Refusal}
use Rattle.grpc_base.specs.declared.event.Refusal.TheVariants as refusal
use Rattle.grpc_base.specs.declared.event.Reply.{Reply}
use Rattle.grpc_base.specs.declared.event.Reply.TheVariants as reply
use Rattle.session_actions.specs.Deliveries.{request_finished}
use Rattle.session_actions.specs.Events.{event_action, event_action_by}
use Rattle.session_actions.specs.Refusals.{cancel_refusal, refused_if, send_refusal}
use Rattle.session_actions.specs.Words.{numbered}
use Rattle.session_actions.specs.declared.action.Action.TheVariants as action
use Rattle.session_actions.specs.declared.call.Call.{Call}
use Rattle.session_actions.specs.declared.entry.OpenEntry.{OpenEntry}
use Rattle.session_actions.specs.declared.seen.Seen.{Seen}
use Rattle.call_actions.proofs.TakeActions.Retold.{came_same, sees_reported, reported}
use Rattle.call_actions.proofs.TakeActions.Takes.{answer, answered, done, replied_is}
use Rattle.call_actions.specs.TakeActions.Laws.{Agrees, CancelsAreAnswered, FinishesAreDone, IsDone, IsPosted}
use Rattle.call_actions.specs.TakeActions.Serves.{Holds, IsLeft, Serves}

-- why an application may send nothing further, by the end of the call and whether its request is finished
abbrev pub refusal_by : Bool → Bool → Option Refusal
refusal_by over finished = if over then Some refusal.CallEnded else if finished then Some refusal.AfterFinish else None

pub cause_is_some : (o : Option CallEnd) → is_some (option_map (λ (e : CallEnd). e.cause) o) ≡ is_some o
cause_is_some None = refl
cause_is_some (Some e) = refl

module _ (s : Seen) (c : Call) (x : Stepped) (h : Serves s c x) where
  pub over_is : is_some x.call.ended ≡ is_some c.end
  over_is = ap (λ (o : Option EndCause). is_some o) (sym h.sees.ended) ∙ cause_is_some c.end

  pub channel_refusal : steps.send_refusal x.call ≡ refusal_by (is_some c.end) c.finished
  channel_refusal =
      ap (λ (b : Bool). refusal_by b x.call.is_finished) over_is ∙ ap (λ (b : Bool). refusal_by (is_some c.end) b) (sym h.sees.finished)

  pub session_refusal : s.shut ≡ false → (o : Option Refusal) → refusal_by (is_some c.end) c.finished ≡ o
      → refused_if s.shut refusal.Shut (send_refusal (numbered s.calls c.number)) ≡ o
  session_refusal going o e =
      ap (λ (b : Bool). refused_if b refusal.Shut (send_refusal (numbered s.calls c.number))) going ∙ ap send_refusal h.sees.own ∙ e

  pub refused_by : (o : Option Refusal) → refusal_by (is_some c.end) c.finished ≡ o → steps.send_refusal x.call ≡ o
  refused_by o e = channel_refusal ∙ e

-- the request is finished
module _ (s : Seen) (c : Call) (x : Stepped) (p : IsPosted (event.Finish c.number) s) (going : s.shut ≡ false) (h : Serves s c x) where
  abbrev pub Finished : Reply → CallState → Type 0
  Finished r k = IsDone (event.Finish c.number) s c.number r (record x { call = k })

  pub finish_refused : (why : Refusal) → refusal_by (is_some c.end) c.finished ≡ Some why → Finished (steps.finish_reply x.call) (steps.finished x.call)
  finish_refused why e =
      let reported_why : steps.send_refusal x.call ≡ Some why = refused_by s c x h (Some why) e in
      let next : event_action (event.Finish c.number) s ≡ Some (action.EventRefused why)
      = ap (λ (o : Option Refusal). event_action_by o (event.Finish c.number) s) (session_refusal s c x h going (Some why) e) in
      let refused : Finished (reply.Refused why) x.call
      = answered (event.Finish c.number) s c (reply.Refused why) x p (action.EventRefused why) next refl h in
      subst (Finished (steps.finish_reply x.call)) (sym (ap (λ (o : Option Refusal). steps.finished_if o x.call) reported_why))
      (subst (λ (r : Reply). Finished r x.call) (sym (ap steps.finish_reply_if reported_why)) refused)

  abbrev pub done_open : Option OpenEntry
  done_open = option_map (answer reply.Done) s.current

  abbrev pub done_call : Call
  done_call = reported s c (λ (k : Call). k.messages) (λ (k : Call). true) (λ (k : Call). k.taken) (λ (k : Call). k.end_taken) done_open c

  pub serves_done : Serves (request_finished c.number s) done_call (record x { call = record x.call { is_finished = true } })
  serves_done = record {
    sees = sees_reported s c (λ (k : Call). k.messages) (λ (k : Call). true) (λ (k : Call). k.taken) (λ (k : Call). k.end_taken) done_open x
        true x.call.longest x.call.buffer x.call.inbox refl h.sees.longest_is (some_still (answer reply.Done) s.current) h.sees;
    places = h.places;
    config = h.config;
    links = h.links;
    reads = h.reads;
    counted = h.counted;
    end_taken = h.end_taken;
    going = h.going;
    left = λ e. subst (λ (all : List Reply). IsLeft all c.taken (channel.came x.call))
        (sym (came_same s c (λ (k : Call). k.messages) (λ (k : Call). true) (λ (k : Call). k.taken) (λ (k : Call). k.end_taken) done_open)) (h.left e);
    holds = λ is_open. let k : Holds s c x.call.buffer = h.holds is_open in record { fed = k.fed; held = k.held; committed = k.committed };
  }

  pub finish_now : refusal_by (is_some c.end) c.finished ≡ None → Finished (steps.finish_reply x.call) (steps.finished x.call)
  finish_now e =
      let reported_none : steps.send_refusal x.call ≡ None = refused_by s c x h None e in
      let next : event_action (event.Finish c.number) s ≡ Some (action.RequestFinished c.number)
      = ap (λ (o : Option Refusal). event_action_by o (event.Finish c.number) s) (session_refusal s c x h going None e) in
      let agrees : Agrees (request_finished c.number s) c.number (record x { call = record x.call { is_finished = true } })
      = record { call = done_call; number_is = refl; serves = serves_done } in
      let finished_now : Finished reply.Done (record x.call { is_finished = true })
      = done (event.Finish c.number) s c.number reply.Done (record x { call = record x.call { is_finished = true } }) p (action.RequestFinished c.number)
      (request_finished c.number s) next refl (replied_is s p.entry reply.Done p.current) agrees in
      subst (Finished (steps.finish_reply x.call)) (sym (ap (λ (o : Option Refusal). steps.finished_if o x.call) reported_none))
      (subst (λ (r : Reply). Finished r (record x.call { is_finished = true })) (sym (ap steps.finish_reply_if reported_none)) finished_now)

  pub finish_by : (o : Option Refusal) → refusal_by (is_some c.end) c.finished ≡ o → Finished (steps.finish_reply x.call) (steps.finished x.call)
  finish_by (Some why) e = finish_refused why e
  finish_by None e = finish_now e

pub finishes_are_done : FinishesAreDone
finishes_are_done s c x p going h = finish_by s c x p going h (refusal_by (is_some c.end) c.finished) refl

-- the call is given up
pub cancel_to : (s : Seen) (c : Call) (x : Stepped) → IsPosted (event.Cancel c.number) s → Serves s c x → (over : Bool)
    → event_action (event.Cancel c.number) s ≡ event_action_by (refused_if over refusal.CallEnded None) (event.Cancel c.number) s
    → IsDone (event.Cancel c.number) s c.number (if over then reply.Refused refusal.CallEnded else reply.Done) x
cancel_to s c x p h true next = answered (event.Cancel c.number) s c (reply.Refused refusal.CallEnded) x p (action.EventRefused refusal.CallEnded) next refl h
cancel_to s c x p h false next = answered (event.Cancel c.number) s c reply.Done x p (action.EventAnswered reply.Done) next refl h

pub cancel_by : (s : Seen) (c : Call) (x : Stepped) → IsPosted (event.Cancel c.number) s → s.shut ≡ false → Serves s c x → (over : Bool) → is_some c.end ≡ over
    → IsDone (event.Cancel c.number) s c.number (steps.cancel_reply x.call) x
cancel_by s c x p going h over e =
    let reply_is : steps.cancel_reply x.call ≡ (if over then reply.Refused refusal.CallEnded else reply.Done)
    = ap (λ (b : Bool). if b then reply.Refused refusal.CallEnded else reply.Done) (over_is s c x h ∙ e) in
    let next : event_action (event.Cancel c.number) s ≡ event_action_by (refused_if over refusal.CallEnded None) (event.Cancel c.number) s
    = ap (λ (b : Bool). event_action_by (refused_if b refusal.Shut (cancel_refusal (numbered s.calls c.number))) (event.Cancel c.number) s) going
    ∙ ap (λ (o : Option Call). event_action_by (cancel_refusal o) (event.Cancel c.number) s) h.sees.own
    ∙ ap (λ (b : Bool). event_action_by (refused_if b refusal.CallEnded None) (event.Cancel c.number) s) e in
    subst (λ (r : Reply). IsDone (event.Cancel c.number) s c.number r x) (sym reply_is) (cancel_to s c x p h over next)

pub cancels_are_answered : CancelsAreAnswered
cancels_are_answered s c x p going h = cancel_by s c x p going h (is_some c.end) refl
