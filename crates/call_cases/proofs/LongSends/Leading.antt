-- A message that is too long is answered, and the end of its call is next.
use Rattle.attempt_ledger.specs.declared.ledger.CallEnd.{CallEnd}
use Rattle.call_actions.proofs.Lists.{changed_twice}
use Rattle.call_core.specs.Parts as parts
use Rattle.call_core.specs.Steps as steps
use Rattle.call_core.specs.Steps.{Stepped, lent}
use Rattle.call_core.specs.declared.state.CallState.{CallState}
use Rattle.call_cases.proofs.CallPosts.Answered.{Posted, posted, to_order}
use Rattle.call_cases.proofs.CallPosts.Asked.{asked_alike}
use Rattle.channel_actions.proofs.Answering.{event_next, replied_entry}
use Rattle.channel_actions.proofs.Dialling.{unshut_by}
use Rattle.channel_actions.proofs.Settles.{is_with_open, reopened, with_open}
use Rattle.channel_actions.proofs.Stamps.{counted_at}
use Rattle.channel_actions.specs.Agrees.{Agrees}
use Rattle.channel_actions.specs.Calls.{SeesCall, lent_to}
use Rattle.channel_actions.specs.Quiescent.{IsAt}
use Rattle.channel_core.specs.Applying as channel
use Rattle.channel_core.specs.Applying.{AnswersBy}
use Rattle.channel_core.specs.Arrivals.{sent_to}
use Rattle.channel_core.specs.Books.{lacks_call, slot_at}
use Rattle.channel_core.specs.States.{StateSeen}
use Rattle.channel_core.specs.Steps.{closed, sealed}
use Rattle.channel_core.specs.Tables.{send_reply_of, tokens_in}
use Rattle.channel_core.specs.declared.state.slots.CallSlot.{CallSlot}
use Rattle.grpc_base.specs.declared.event.EndCause.TheVariants as ending
use Rattle.grpc_base.specs.declared.event.Event.{Event}
use Rattle.grpc_base.specs.declared.event.Event.TheVariants as event
use Rattle.grpc_base.specs.declared.event.Refusal.{Refusal}
use Rattle.grpc_base.specs.declared.event.Reply.{Reply}
use Rattle.grpc_base.specs.declared.event.Reply.TheVariants as reply
use Rattle.call_cases.proofs.LongSends.Found.{found}
use Rattle.call_cases.specs.LongSends.Laws.{IsToEnd, LeadsToEnd, LongSendsLead}
use Rattle.session_actions.specs.Actions.{following}
use Rattle.session_actions.specs.CallEnds.{call_ended, cancels, has_long_request, is_after_event, is_cancelled, next_deadline, sends_too_long}
use Rattle.session_actions.specs.Calls.{is_open_call}
use Rattle.session_actions.specs.Configs.{is_too_long}
use Rattle.session_actions.specs.Deliveries.{held_bytes, is_accepted, send_action}
use Rattle.session_actions.specs.Entries.{entry, now}
use Rattle.session_actions.specs.Events.{event_action, event_action_by, frame_of_event, is_loss}
use Rattle.session_actions.specs.Policies.{addresses_in}
use Rattle.session_actions.specs.Words.{numbered}
use Rattle.session_actions.specs.declared.action.Action.TheVariants as action
use Rattle.session_actions.specs.declared.call.Call.{Call}
use Rattle.session_actions.specs.declared.call.MarkKind.TheVariants as mark
use Rattle.session_actions.specs.declared.entry.OpenEntry.{OpenEntry}
use Rattle.session_actions.specs.declared.entry.Stage.TheVariants as stage
use Rattle.session_actions.specs.declared.seen.Seen.{Seen}
use Rattle.session_order.proofs.Quiescence.{first_line_gives}
use Rattle.session_order.proofs.Changed.{none_each_changed, none_from, passes_not}
use Rattle.session_order.proofs.Ended.{ended_leaves}
use Rattle.session_order.proofs.Posts.{answered_leaves}
use Rattle.session_order.specs.Quiescent.{IsStill}
use Rattle.session_order.specs.Lines.{is_before, is_line, rank}
use Rattle.session_order.specs.Stirs.{CallsHaveTheirNumbers, stirs}
use Rattle.session_order.specs.declared.line.Line.{Line}
use Rattle.session_order.specs.declared.line.Line.TheVariants as line
use Rattle.std.proofs.Common.{Bool, List, None, Option, Some, [], ap, eqb-true, false, if◌then◌else◌, is_none, is_some, length, not, option_map, refl, subst, sym, true, ℕ, ◌&&◌, ◌||◌, ◌++◌, ◌==◌, ◌∙◌, ◌∷◌, ◌≡◌}
use Rattle.std.proofs.lemmas.Bool.{eq-eqb}
use Rattle.std.specs.List.{list_any}
use Rattle.std.specs.Prelude.{find, nat_lt}
use Rattle.call_actions.proofs.TakeActions.Posted.{over_is, refusal_by, session_refusal, channel_refusal}
use Rattle.call_actions.proofs.TakeActions.Sends.{long_is}

and_none : (b : Bool) → (b && false) ≡ false
and_none true = refl
and_none false = refl

or_true : (b : Bool) → (b || true) ≡ true
or_true true = refl
or_true false = refl

request_restricted : (a l p : Bool) → (a && (l || p)) ≡ false → (a && (l || false)) ≡ false
request_restricted true true p e = absurd (cc)
request_restricted true false p e = refl
request_restricted false l p e = refl

or_none : (b : Bool) → b ≡ false → (b || false) ≡ false
or_none b e = ap (λ (z : Bool). z || false) e

open_by : (o : Option CallEnd) (f : Bool) → refusal_by (is_some o) f ≡ None → o ≡ None
open_by None f e = refl
open_by (Some k) f e = absurd (cc)

module _ (x : StateSeen) (o : OpenEntry) (s0 : Seen) (h : Agrees x (with_open o s0)) (at : IsAt stage.Event o (with_open o s0)) (fresh : o.turn ≡ None)
    (timely : next_deadline (with_open o s0) ≡ None) (c : Call) (slot : CallSlot) (own : numbered s0.calls c.number ≡ Some c) (there : slot_at x.book c.number ≡ Some slot)
    (sees : SeesCall x (with_open o s0) c slot) (m : List ℕ) (is : o.event ≡ event.Send c.number m) (unshut : s0.shut ≡ false)
    (unrefused : steps.send_refusal slot.call ≡ None) (long : parts.is_too_long slot.call.chosen (length m) ≡ true) where
  abbrev u : Seen
  u = with_open o s0

  abbrev q : OpenEntry
  q = replied_entry reply.Done o

  abbrev w : Seen
  w = with_open q s0

  abbrev n : ℕ
  n = c.number

  abbrev t : Seen
  t = call_ended n ending.Request w

  abbrev st : Stepped
  st = lent_to x u slot

  abbrev lends : CallState → Stepped
  lends k = lent k x.book.ledger (tokens_in x.book.buckets slot.bucket) []

  free : refusal_by (is_some c.end) c.finished ≡ None
  free = sym (channel_refusal u c st sees.serves) ∙ unrefused

  going : c.end ≡ None
  going = open_by c.end c.finished free

  too_long : is_too_long m c u ≡ true
  too_long = long_is u c st m sees.serves ∙ long

  numbers : CallsHaveTheirNumbers w
  numbers k d e = counted_at (λ (z : Call). z.number) s0.calls k d h.kept.calls e

  -- the event is answered
  gives : event_action o.event u ≡ Some (action.EventAnswered reply.Done)
  gives =
      ap (λ (v : Event). event_action v u) is
      ∙ ap (λ (z : Option Refusal). event_action_by z (event.Send n m) u) (session_refusal u c st sees.serves unshut None free)
      ∙ ap (option_map (send_action n m u)) own
      ∙ ap (λ (b : Bool). Some (if b then action.EventAnswered reply.Done
      else if is_accepted c m u then action.MessageAccepted n else action.EventAnswered (reply.Full (held_bytes c u)))) too_long

  no_result : addresses_in o.event ≡ None
  no_result = ap addresses_in is

  -- the lines that it does not stir
  before_by : (l : Line) → stirs (action.EventAnswered reply.Done) l ≡ false → IsStill l q w
  before_by l away = answered_leaves reply.Done o u refl no_result l q refl away (to_order o u at.quiescent l)

  cancelled_still : IsStill line.Cancelled q w
  cancelled_still =
      none_from (is_cancelled q) s0.calls
      (λ k d e. ap (λ (z : Event). (is_open_call d && true) && cancels z d.number) is ∙ and_none (is_open_call d && true))

  before : (l : Line) → is_line l line.Request ≡ false → IsStill l q w
  before line.Cancelled e = cancelled_still
  before line.Request e = absurd (cc)
  before l e = before_by l refl

  -- the call was sent too long a message, and no other was
  reason : has_long_request q w c ≡ true
  reason =
      ap (λ (z : Event). is_open_call c && (list_any (λ (k : List ℕ). is_too_long k c w) c.messages || sends_too_long z c w)) is
      ∙ ap (λ (b : Bool). is_open_call c && (list_any (λ (k : List ℕ). is_too_long k c w) c.messages || (b && is_too_long m c w))) (eq-eqb n n refl)
      ∙ ap (λ (b : Bool). is_open_call c && (list_any (λ (k : List ℕ). is_too_long k c w) c.messages || b)) too_long
      ∙ ap (λ (b : Bool). is_open_call c && b) (or_true (list_any (λ (k : List ℕ). is_too_long k c w) c.messages))
      ∙ ap (λ (z : Option CallEnd). is_none z && true) going

  other_short : (d : Call) → (n == d.number) ≡ false → has_long_request o u d ≡ false → has_long_request q w d ≡ false
  other_short d other none =
      ap (λ (z : Event). is_open_call d && (list_any (λ (k : List ℕ). is_too_long k d w) d.messages || sends_too_long z d w)) is
      ∙ ap (λ (b : Bool). is_open_call d && (list_any (λ (k : List ℕ). is_too_long k d w) d.messages || (b && is_too_long m d w))) other
      ∙ request_restricted (is_open_call d) (list_any (λ (k : List ℕ). is_too_long k d u) d.messages) (is_after_event o && sends_too_long o.event d u) none

  was_short : (k : ℕ) (d : Call) → numbered s0.calls k ≡ Some d → has_long_request o u d ≡ false
  was_short k d e = passes_not (has_long_request o u) s0.calls k d (to_order o u at.quiescent line.Request) e

  only_by : (k : ℕ) (d : Call) (b : Bool) → (n == d.number) ≡ b → numbered s0.calls k ≡ Some d → has_long_request q w d ≡ true → d.number ≡ n
  only_by k d true e got passes = sym (eqb-true n d.number e)
  only_by k d false e got passes =
      let both : true ≡ false = sym passes ∙ other_short d e (was_short k d got) in absurd (cc)

  first : option_map (λ (d : Call). action.CallEnds d.number ending.Request) (find (has_long_request q w) s0.calls) ≡ Some (action.CallEnds n ending.Request)
  first = found ending.Request n (has_long_request q w) n s0.calls c own reason (λ k d got passes. only_by k d (n == d.number) refl got passes)

  earlier_by : (l : Line) → is_before q.event l line.Request ≡ true → IsStill l q w
  earlier_by line.Request e = absurd (self_before (is_loss q.event) e)
    where
      self_before : (b : Bool) → nat_lt (rank b line.Request) (rank b line.Request) ≡ true → ⊥
      self_before b e = absurd (cc)
  earlier_by l e = before l refl

  pub next : following w ≡ Some (action.CallEnds n ending.Request)
  next = first_line_gives line.Request (action.CallEnds n ending.Request) q w refl earlier_by first

  -- once the call has ended
  long_after : (d : Call) → (n == d.number) ≡ false → has_long_request o u d ≡ false → has_long_request q t d ≡ false
  long_after d other none =
      ap (λ (z : Event). is_open_call d && (list_any (λ (k : List ℕ). is_too_long k d t) d.messages || sends_too_long z d t)) is
      ∙ ap (λ (b : Bool). is_open_call d && (list_any (λ (k : List ℕ). is_too_long k d t) d.messages || (b && is_too_long m d t))) other
      ∙ request_restricted (is_open_call d) (list_any (λ (k : List ℕ). is_too_long k d u) d.messages) (is_after_event o && sends_too_long o.event d u) none

  unlike : (k : ℕ) (d : Call) → (k ≡ n → ⊥) → numbered s0.calls k ≡ Some d → (n == d.number) ≡ false
  unlike k d other got = unlike_by (n == d.number) refl
    where
      unlike_by : (b : Bool) → (n == d.number) ≡ b → b ≡ false
      unlike_by true e = absurd (other (sym (numbers k d got) ∙ sym (eqb-true n d.number e)))
      unlike_by false e = refl

  abbrev closes : Call → Call
  closes d = record d { marks = d.marks ++ record { what = mark.Closed; moment = now w } ∷ []; end = Some (record { entry = entry w; moment = now w; cause = ending.Request }) }

  request_after : IsStill line.Request q t
  request_after =
      subst (λ (calls : List Call). list_any (has_long_request q t) calls ≡ false)
      (sym (changed_twice (λ (d : Call). record d { marks = d.marks ++ record { what = mark.Closed; moment = now w } ∷ [] })
      (λ (d : Call). record d { end = Some (record { entry = entry w; moment = now w; cause = ending.Request }) }) n s0.calls))
      (none_each_changed (has_long_request q t) closes n s0.calls (λ d e. refl)
      (λ k d other e. long_after d (unlike k d other e) (was_short k d e)))

  still_by : (l : Line) → is_line l line.Cut ≡ false → is_line l line.Request ≡ false → IsStill l q t
  still_by l cut other =
      ended_leaves n ending.Request q w refl numbers l q refl (or_none (is_line l line.Cut) cut) (before l other)

  still_after : (l : Line) → is_line l line.Cut ≡ false → IsStill l q t
  still_after line.Request e = request_after
  still_after line.Cut e = absurd (cc)
  still_after l e = still_by l refl refl

  -- what the channel does
  closes_so : steps.sent m x.book.moment (lends slot.call) ≡ steps.closed_by ending.Request x.book.moment (lends slot.call)
  closes_so =
      ap (λ (z : Option Refusal). steps.sent_if z m x.book.moment (lends slot.call)) unrefused
      ∙ ap (λ (b : Bool). if b then steps.ended_as ending.Request x.book.moment (lends slot.call) else steps.accepted_if (steps.full_with (length m) slot.call) m x.book.moment (lends slot.call)) long
      ∙ sym (ap (λ (b : Bool). if not b then steps.ended_as ending.Request x.book.moment (lends slot.call) else lends slot.call)
      (over_is u c st sees.serves ∙ ap (λ (z : Option CallEnd). is_some z) going))

  pub ends : (sent_to n m x).state ≡ closed ending.Request n x
  ends = ap sealed (asked_alike (steps.sent m x.book.moment) (steps.closed_by ending.Request x.book.moment) x n slot there closes_so)

  pub says : (sent_to n m x).reply ≡ reply.Done
  says =
      ap (send_reply_of m) there ∙ ap (λ (z : Option Refusal). steps.send_reply_if z m slot.call) unrefused
      ∙ ap (λ (b : Bool). if b then reply.Done else steps.full_reply (steps.full_with (length m) slot.call)) long

  led : IsToEnd n ending.Request x q w
  led = record {
    current = refl;
    agrees = reopened x o q s0 refl refl refl h;
    call = c;
    there = own;
    going = going;
    next = next;
    uncut = before line.Cut refl;
    unfollowed = before line.Transparent refl;
    still = still_after;
  }

  pub leads : LeadsToEnd n ending.Request x (sent_to n m x).state reply.Done o u
  leads = record {
    entry = q;
    seen = w;
    only = refl;
    does = (event_next o u at timely (action.EventAnswered reply.Done) gives, refl);
    same = record { moment = refl; word = refl; event = refl; entries = refl; setup = refl };
    stage_is = refl;
    reply = refl;
    fresh = fresh;
    frameless = λ z. ap (λ (e : Event). frame_of_event e q z) is;
    led = led;
    ends = ends;
  }

same_slot : (a b : CallSlot) → Some a ≡ Some b → a ≡ b
same_slot a b e = (cc)

pub long_sends_lead : LongSendsLead
long_sends_lead x y r o s h at fresh timely case answers =
    let e : s ≡ with_open o s = is_with_open o s at.current in
    let kept : (x.shut ≡ false) × (lacks_call (slot_at x.book case.call) ≡ None)
    = unshut_by x.shut (lacks_call (slot_at x.book case.call)) (subst (λ (v : Event). channel.refusal_of v x ≡ None) case.event_is case.kept) in
    let given : AnswersBy None (event.Send case.call case.message) x y r
    = subst (λ (v : Event). AnswersBy None v x y r) case.event_is (subst (λ (z : Option Refusal). AnswersBy z o.event x y r) case.kept answers) in
    let now_agrees : Agrees x (with_open o s) = subst (Agrees x) e h in
    let k : Posted x (with_open o s) case.call = posted x (with_open o s) now_agrees case.call kept.1 in
    let same : case.call ≡ k.call.number = sym k.number_is in
    let slots : case.slot ≡ k.slot = same_slot case.slot k.slot (sym case.there ∙ k.there) in
    let own : numbered s.calls k.call.number ≡ Some k.call = ap (numbered s.calls) k.number_is ∙ k.at in
    let there : slot_at x.book k.call.number ≡ Some k.slot = ap (slot_at x.book) k.number_is ∙ k.there in
    let is : o.event ≡ event.Send k.call.number case.message = case.event_is ∙ ap (λ (z : ℕ). event.Send z case.message) same in
    let at_now : IsAt stage.Event o (with_open o s) = subst (IsAt stage.Event o) e at in
    let timely_now : next_deadline (with_open o s) ≡ None = subst (λ (z : Seen). next_deadline z ≡ None) e timely in
    let unshut : s.shut ≡ false = h.configs.shut ∙ kept.0 in
    let free : steps.send_refusal k.slot.call ≡ None = ap (λ (z : CallSlot). steps.send_refusal z.call) (sym slots) ∙ case.free in
    let long : parts.is_too_long k.slot.call.chosen (length case.message) ≡ true
    = ap (λ (z : CallSlot). parts.is_too_long z.call.chosen (length case.message)) (sym slots) ∙ case.long in
    let led : LeadsToEnd k.call.number ending.Request x (sent_to k.call.number case.message x).state reply.Done o (with_open o s)
    = leads x o s now_agrees at_now fresh timely_now k.call k.slot own there k.sees case.message is unshut free long in
    let reply_is : r ≡ reply.Done
    = given.1 ∙ ap (λ (z : ℕ). (sent_to z case.message x).reply) same ∙ says x o s now_agrees at_now fresh timely_now k.call k.slot own there k.sees case.message is unshut free long in
    let state_is : y ≡ (sent_to k.call.number case.message x).state = given.0 ∙ ap (λ (z : ℕ). (sent_to z case.message x).state) same in
    let here : LeadsToEnd k.call.number ending.Request x y r o (with_open o s)
    = subst (λ (z : StateSeen). LeadsToEnd k.call.number ending.Request x z r o (with_open o s)) (sym state_is)
    (subst (λ (z : Reply). LeadsToEnd k.call.number ending.Request x (sent_to k.call.number case.message x).state z o (with_open o s)) (sym reply_is) led) in
    subst (λ (z : Seen). LeadsToEnd case.call ending.Request x y r o z) (sym e)
    (subst (λ (z : ℕ). LeadsToEnd z ending.Request x y r o (with_open o s)) k.number_is here)
