-- The application sends a message that commits no call and ends none: it is accepted, or the call is full, or it is refused.
use Rattle.attempt_buffer.specs.Buffers.{Buffered, held}
use Rattle.attempt_buffer.specs.declared.buffer.PushFault.{PushFault}
use Rattle.attempt_buffer.specs.declared.buffer.Pushed.TheVariants as pushed
use Rattle.attempt_buffer.specs.declared.buffer.PushFault.TheVariants as fault
use Rattle.call_core.specs.Parts as parts
use Rattle.call_core.specs.Parts.{has_room, pushed_over}
use Rattle.call_core.specs.Steps as steps
use Rattle.call_core.specs.Steps.{Stepped, accepted_if, committed_over, full_reply, full_with, lent, with_message}
use Rattle.call_core.specs.declared.state.CallState.{CallState}
use Rattle.call_cases.proofs.CallPosts.Answered.{Posted, posted, to_order, reported_answered}
use Rattle.call_cases.proofs.CallPosts.Asked.{IsAsked, asked, deadline_right, due_right}
use Rattle.call_cases.proofs.CallPosts.Report.{f, t}
use Rattle.call_cases.specs.CallPosts.Cases.{IsPlainSend}
use Rattle.channel_actions.proofs.Answering.{refused_so, replied_entry}
use Rattle.channel_actions.proofs.Dialling.{unshut_by}
use Rattle.channel_actions.proofs.Settles.{is_with_open, with_open}
use Rattle.channel_actions.proofs.Stamps.{counted_at}
use Rattle.channel_actions.specs.Agrees.{Agrees}
use Rattle.channel_actions.specs.Calls.{SeesCall, lent_to}
use Rattle.channel_actions.specs.Quiescent.{IsAt}
use Rattle.channel_actions.specs.Stages.{EventsAnswered, IsAnswered}
use Rattle.channel_core.specs.Applying as channel
use Rattle.channel_core.specs.Applying.{AnswersBy}
use Rattle.channel_core.specs.Arrivals.{sent_to}
use Rattle.channel_core.specs.Books.{lacks_call, slot_at}
use Rattle.channel_core.specs.States.{StateSeen}
use Rattle.channel_core.specs.Tables.{send_reply_of, tokens_in}
use Rattle.channel_core.specs.declared.state.slots.CallSlot.{CallSlot}
use Rattle.grpc_base.specs.declared.event.EndCause.TheVariants as ending
use Rattle.grpc_base.specs.declared.event.Event.{Event}
use Rattle.grpc_base.specs.declared.event.Event.TheVariants as event
use Rattle.grpc_base.specs.declared.event.Refusal.{Refusal}
use Rattle.grpc_base.specs.declared.event.Refusal.TheVariants as refusal
use Rattle.grpc_base.specs.declared.event.Reply.{Reply}
use Rattle.grpc_base.specs.declared.event.Reply.TheVariants as reply
use Rattle.grpc_frame.specs.Messages.{framed, framed_all}
use Rattle.channel_actions.specs.KeptSessions.Laws.{KeptAlong}
use Rattle.session_actions.specs.Attempts.{commitment}
use Rattle.attempt_ledger.specs.declared.ledger.CallEnd.{CallEnd}
use Rattle.session_actions.specs.Actions.{after}
use Rattle.session_actions.specs.CallEnds.{cancels, has_long_request, is_after_event, is_cancelled, next_deadline, sends_too_long}
use Rattle.session_actions.specs.Calls.{is_open_call}
use Rattle.session_actions.specs.Commitments.{is_free_call}
use Rattle.session_actions.specs.Configs.{is_too_long}
use Rattle.session_actions.specs.Deliveries.{held_bytes, is_accepted, message_accepted}
use Rattle.session_actions.specs.Events.{event_action, event_action_by, frame_action, frame_of_event}
use Rattle.session_actions.specs.Policies.{addresses_in}
use Rattle.session_actions.specs.Words.{changed, numbered}
use Rattle.session_actions.specs.Writing.{accepted_bytes, drained}
use Rattle.session_actions.specs.declared.action.Action.TheVariants as action
use Rattle.session_actions.specs.declared.attempt.Attempt.{Attempt}
use Rattle.session_actions.specs.declared.call.Call.{Call}
use Rattle.session_actions.specs.declared.entry.OpenEntry.{OpenEntry}
use Rattle.session_actions.specs.declared.entry.Stage.TheVariants as stage
use Rattle.session_actions.specs.declared.seen.Seen.{Seen}
use Rattle.session_order.proofs.Changed.{none_each_changed, none_from, passes_not}
use Rattle.session_order.proofs.Messages.{accepted_leaves}
use Rattle.session_order.proofs.Posts.{answered_leaves}
use Rattle.session_order.specs.Quiescent as order
use Rattle.session_order.specs.Quiescent.{has_outstanding, is_overflowing}
use Rattle.session_order.specs.Stirs.{CallsHaveTheirNumbers, stirs}
use Rattle.session_order.specs.declared.line.Line.{Line}
use Rattle.session_order.specs.declared.line.Line.TheVariants as line
use Rattle.std.proofs.Common.{Bool, Err, List, None, Ok, Option, Some, [], ap, arith, false, if◌then◌else◌, is_none, is_some, length, length-append, max, nat_le, nat_lt, not, refl, subst, sym, true, ℕ, ◌&&◌, ◌||◌, ◌++◌, ◌+◌, ◌-◌, ◌==◌, ◌∙◌, ◌∷◌, ◌≡◌, ◌≤◌}
use Rattle.std.proofs.lemmas.Bool.{eq-eqb, eqb-true}
use Rattle.std.proofs.lemmas.Bool.Decides.{nat_tests}
use Rattle.std.specs.List.{list_any}
use Rattle.std.specs.Option.{option_map_or}
use Rattle.call_actions.proofs.TakeActions.Posted.{refusal_by, refused_by, session_refusal}
use Rattle.call_actions.proofs.TakeActions.Room.{answer_is, answer_kept, committed_is, framed_more, held_is, pushed_is, room_is}
use Rattle.call_actions.proofs.TakeActions.Retold.{changed_self, serves_same}
use Rattle.call_actions.proofs.TakeActions.Sends.{action_is, full_is, long_is, not_over, reply_free, serves_sent}
use Rattle.call_actions.specs.TakeActions.Laws.{IsPosted}
use Rattle.call_actions.specs.TakeActions.Serves.{Holds}

-- a message that was kept fits
fits_by : (k low fits any : Bool) (full : PushFault) → k ≡ false
    → (if k then (if not low then Err full else Ok pushed.Kept) else if fits then Ok pushed.Kept else if any then Ok pushed.Overflow else Err full) ≡ Ok pushed.Kept → fits ≡ true
fits_by true low fits any full e kept = absurd (cc)
fits_by false low true any full e kept = refl
fits_by false low false true full e kept = absurd (cc)
fits_by false low false false full e kept = absurd (cc)

not_above : (n m : ℕ) → nat_le n 262144 ≡ true → m ≡ n → nat_lt 262144 m ≡ false
not_above n m fits same = grind (arith, nat_tests)

and_away : (a b c : Bool) → b ≡ false → ((a && b) && c) ≡ false
and_away true b c e = ap (λ (z : Bool). z && c) e
and_away false b c e = refl

and_first : (a b c : Bool) → a ≡ false → ((a && b) && c) ≡ false
and_first a b c e = ap (λ (z : Bool). (z && b) && c) e

if_none : {X : Type 0} (b : Bool) (z : Option X) → z ≡ None → (if b then z else None) ≡ None
if_none true z e = e
if_none false z e = refl

and_none : (b : Bool) → (b && false) ≡ false
and_none true = refl
and_none false = refl

request_restricted : (a l p : Bool) → (a && (l || p)) ≡ false → (a && (l || false)) ≡ false
request_restricted true true p e = absurd (cc)
request_restricted true false p e = refl
request_restricted false l p e = refl

module _ (along : KeptAlong) (x : StateSeen) (o : OpenEntry) (s0 : Seen) (h : Agrees x (with_open o s0)) (at : IsAt stage.Event o (with_open o s0)) (fresh : o.turn ≡ None)
    (timely : next_deadline (with_open o s0) ≡ None) (c : Call) (slot : CallSlot) (own : numbered s0.calls c.number ≡ Some c) (there : slot_at x.book c.number ≡ Some slot)
    (sees : SeesCall x (with_open o s0) c slot) (m : List ℕ) (is : o.event ≡ event.Send c.number m) (unshut : s0.shut ≡ false) where
  abbrev u : Seen
  u = with_open o s0

  abbrev st : Stepped
  st = lent_to x u slot

  abbrev lends : CallState → Stepped
  lends k = lent k x.book.ledger (tokens_in x.book.buckets slot.bucket) []

  abbrev p0 : IsPosted (event.Send c.number m) u
  p0 = record { entry = o; current = refl; event_is = is }

  abbrev y0 : StateSeen
  y0 = (sent_to c.number m x).state

  abbrev r0 : Reply
  r0 = (sent_to c.number m x).reply

  abbrev Done : Type 0
  Done = IsAnswered y0 r0 o u

  gives : (z : Option Refusal) → refusal_by (is_some c.end) c.finished ≡ z → event_action o.event u ≡ event_action_by z (event.Send c.number m) u
  gives z e =
      ap (λ (v : Event). event_action v u) is ∙ ap (λ (w : Option Refusal). event_action_by w (event.Send c.number m) u) (session_refusal u c st sees.serves unshut z e)

  -- what it is refused for is the same, and nothing is done
  step_by : (z : Option Refusal) → steps.send_refusal slot.call ≡ z → steps.sent m x.book.moment (lends slot.call) ≡ steps.sent_if z m x.book.moment (lends slot.call)
  step_by z e = ap (λ (w : Option Refusal). steps.sent_if w m x.book.moment (lends slot.call)) e

  idle_asked : steps.sent m x.book.moment (lends slot.call) ≡ lends slot.call → IsAsked x c.number slot slot.call y0
  idle_asked stays = asked (steps.sent m x.book.moment) x c.number slot slot.call h.sets.resets there stays (due_right x u c slot sees) (deadline_right x u c slot sees)

  idle_is : steps.sent m x.book.moment (lends slot.call) ≡ lends slot.call → y0 ≡ x
  idle_is stays =
      let k : IsAsked x c.number slot slot.call y0 = idle_asked stays in
      k.is ∙ ap (λ (calls : List CallSlot). record x { book = record x.book { calls = calls } }) (k.same refl)

  send_refused : (why : Refusal) → refusal_by (is_some c.end) c.finished ≡ Some why → Done
  send_refused why e =
      let reported_why : steps.send_refusal slot.call ≡ Some why = refused_by u c st sees.serves (Some why) e in
      refused_so x y0 r0 why o u h at fresh timely (gives (Some why) e) (idle_is (step_by (Some why) reported_why))
      (ap (send_reply_of m) there ∙ ap (λ (z : Option Refusal). steps.send_reply_if z m slot.call) reported_why)

  -- the frames of a Send: none
  no_frame : (r : Reply) (v : Seen) → frame_action (replied_entry r o) v ≡ None
  no_frame r v = if_none (is_after_event (replied_entry r o)) (frame_of_event o.event (replied_entry r o) v) (ap (λ (e : Event). frame_of_event e (replied_entry r o) v) is)

  -- it is not refused: the call is open
  module _ (free : refusal_by (is_some c.end) c.finished ≡ None) (is_open : c.end ≡ None) (short : parts.is_too_long slot.call.chosen (length m) ≡ false)
      (room : pushed_over slot.call.buffer (framed m) (parts.furthest slot.call.buffer slot.call.live) ≡ false) where
    reported_none : steps.send_refusal slot.call ≡ None
    reported_none = refused_by u c st sees.serves None free

    reply_is : r0 ≡ full_reply (full_with (length m) slot.call)
    reply_is = ap (send_reply_of m) there ∙ reply_free u c st m p0 unshut sees.serves short free is_open

    step_is : steps.sent m x.book.moment (lends slot.call) ≡ accepted_if (full_with (length m) slot.call) m x.book.moment (lends slot.call)
    step_is =
        step_by None reported_none
        ∙ ap (λ (b : Bool). if b then steps.ended_as ending.Request x.book.moment (lends slot.call) else accepted_if (full_with (length m) slot.call) m x.book.moment (lends slot.call)) short

    full_as : (b : Bool) → is_accepted c m u ≡ b → full_with (length m) slot.call ≡ (if b then None else Some (held slot.call.buffer))
    full_as b e = full_is u c st m p0 unshut sees.serves short free is_open b e

    next_is : (b : Bool) → is_accepted c m u ≡ b
        → event_action o.event u ≡ Some (if b then action.MessageAccepted c.number else action.EventAnswered (reply.Full (held_bytes c u)))
    next_is b e = ap (λ (v : Event). event_action v u) is ∙ action_is u c st m p0 unshut sees.serves short free is_open b e

    short_now : (d : Call) → numbered u.calls c.number ≡ Some d → is_too_long m d u ≡ false
    short_now d e =
        let same : c ≡ d = (let one : Some c ≡ Some d = sym own ∙ e in (cc)) in
        ap (λ (z : Call). is_too_long m z u) (sym same) ∙ long_is u c st m sees.serves ∙ short

    numbers : CallsHaveTheirNumbers u
    numbers k d e = counted_at (λ (z : Call). z.number) s0.calls k d h.kept.calls e

    -- no room
    module _ (e : is_accepted c m u ≡ false) where
      abbrev full : Reply
      full = reply.Full (held_bytes c u)

      abbrev q : OpenEntry
      q = replied_entry full o

      abbrev w : Seen
      w = with_open q s0

      abbrev v : Seen
      v = t s0 o full c (λ (d : Call). d.messages) (λ (d : Call). d.finished) (λ (d : Call). d.taken) (λ (d : Call). d.end_taken)

      stays : steps.sent m x.book.moment (lends slot.call) ≡ lends slot.call
      stays = step_is ∙ ap (λ (z : Option ℕ). accepted_if z m x.book.moment (lends slot.call)) (full_as false e)

      reply_full : r0 ≡ full
      reply_full =
          let has : Holds u c slot.call.buffer = sees.serves.holds is_open in
          reply_is ∙ ap full_reply (full_as false e) ∙ ap (λ (n : ℕ). reply.Full n) (held_is u c slot.call.buffer has)

      same_calls : changed (f s0 o full c (λ (d : Call). d.messages) (λ (d : Call). d.finished) (λ (d : Call). d.taken) (λ (d : Call). d.end_taken)) c.number s0.calls ≡ s0.calls
      same_calls = changed_self (f s0 o full c (λ (d : Call). d.messages) (λ (d : Call). d.finished) (λ (d : Call). d.taken) (λ (d : Call). d.end_taken)) c.number s0.calls c refl own

      does : after (action.EventAnswered full) u ≡ v
      does = ap (λ (calls : List Call). record s0 { calls = calls; current = Some q }) (sym same_calls)

      -- neither is it cancelled, nor too long
      long_by : (d : Call) (b : Bool) → (c.number == d.number) ≡ b → numbered u.calls d.number ≡ Some d → (b && is_too_long m d u) ≡ false
      long_by d true k there_too =
          short_now d (ap (numbered u.calls) (eqb-true c.number d.number k) ∙ there_too)
      long_by d false k there_too = refl

      request_one : (d : Call) → numbered u.calls d.number ≡ Some d → has_long_request o u d ≡ false → has_long_request q w d ≡ false
      request_one d there_too none =
          ap (λ (z : Event). is_open_call d && (list_any (λ (k : List ℕ). is_too_long k d w) d.messages || sends_too_long z d w)) is
          ∙ ap (λ (b : Bool). is_open_call d && (list_any (λ (k : List ℕ). is_too_long k d w) d.messages || b)) (long_by d (c.number == d.number) refl there_too)
          ∙ request_restricted (is_open_call d) (list_any (λ (k : List ℕ). is_too_long k d u) d.messages) (is_after_event o && sends_too_long o.event d u) none

      request_still : order.IsStill line.Request o u → order.IsStill line.Request q w
      request_still none =
          none_from (has_long_request q w) s0.calls
          (λ k d e2. request_one d (ap (numbered s0.calls) (numbers k d e2) ∙ e2) (passes_not (has_long_request o u) s0.calls k d none e2))

      cancelled_still : order.IsStill line.Cancelled q w
      cancelled_still =
          none_from (is_cancelled q) s0.calls
          (λ k d e2. ap (λ (z : Event). (is_open_call d && true) && cancels z d.number) is ∙ and_none (is_open_call d && true))

      still : (l : Line) → order.IsStill l q w
      still line.Cancelled = cancelled_still
      still line.Request = request_still (to_order o u at.quiescent line.Request)
      still l = answered_leaves full o u refl no_result l q refl refl (to_order o u at.quiescent l)
        where
          no_result : addresses_in o.event ≡ None
          no_result = ap addresses_in is

      quiescent : (l : Line) → order.IsStill l q v
      quiescent l = subst (λ (calls : List Call). order.IsStill l q (record s0 { calls = calls; current = Some q })) (sym same_calls) (still l)

      send_full : Done
      send_full =
          let k : IsAsked x c.number slot slot.call y0 = idle_asked stays in
          let answered : IsAnswered (record x { book = record x.book { calls = k.calls } }) full o u
          = reported_answered along s0 o full c (λ (d : Call). d.messages) (λ (d : Call). d.finished) (λ (d : Call). d.taken) (λ (d : Call). d.end_taken) (λ d. omega arith)
          x h slot own sees slot.call k.calls k.put (serves_same u c st (Some q) refl sees.serves)
          (action.EventAnswered full) does (record { acts = refl; passes = λ d mine off. refl })
          at fresh timely (next_is false e) (λ z. z) refl quiescent (no_frame full v) in
          subst (λ (r : Reply). IsAnswered y0 r o u) (sym reply_full)
          (subst (λ (z : StateSeen). IsAnswered z full o u) (sym k.is) answered)

    -- it is accepted
    module _ (e : is_accepted c m u ≡ true) where
      abbrev qa : OpenEntry
      qa = replied_entry reply.Done o

      abbrev g : Call → Call
      g d = f s0 o reply.Done c (λ (z : Call). z.messages ++ m ∷ []) (λ (z : Call). z.finished) (λ (z : Call). z.taken) (λ (z : Call). z.end_taken) d

      abbrev va : Seen
      va = t s0 o reply.Done c (λ (z : Call). z.messages ++ m ∷ []) (λ (z : Call). z.finished) (λ (z : Call). z.taken) (λ (z : Call). z.end_taken)

      abbrev longer : CallState
      longer = record slot.call { longest = max slot.call.longest (length m); buffer = record slot.call.buffer { messages = slot.call.buffer.messages ++ framed m ∷ [] } }

      abbrev row : Option ℕ
      row = parts.furthest slot.call.buffer slot.call.live

      has : Holds u c slot.call.buffer
      has = sees.serves.holds is_open

      full_none : full_with (length m) slot.call ≡ None
      full_none = full_as true e

      roomy : has_room (is_some slot.call.buffer.committed) (is_some row) (held slot.call.buffer) (length m) ≡ true
      roomy =
          ap (λ (b : Bool). has_room b (is_some row) (held slot.call.buffer) (length m)) (has.committed ∙ sym (committed_is u c st sees.serves has))
          ∙ room_is u c st sees.serves has m ∙ e

      becomes : steps.sent m x.book.moment (lends slot.call) ≡ lends longer
      becomes =
          step_is ∙ ap (λ (z : Option ℕ). accepted_if z m x.book.moment (lends slot.call)) full_none
          ∙ ap (λ (b : Bool). committed_over b row x.book.moment (lends (with_message m row slot.call))) room
          ∙ not_over row x.book.moment (lends (with_message m row slot.call))
          ∙ ap (λ (b : Buffered). lends (record slot.call { longest = max slot.call.longest (length m); buffer = b })) (pushed_is slot.call.buffer m row roomy room)

      asked_so : IsAsked x c.number slot longer y0
      asked_so = asked (steps.sent m x.book.moment) x c.number slot longer h.sets.resets there becomes (due_right x u c slot sees) (deadline_right x u c slot sees)

      more : (d : Call) → accepted_bytes (g d) ≡ accepted_bytes d + length (framed m)
      more d = ap (λ (l : List ℕ). length l) (framed_more d.messages m) ∙ length-append (framed_all d.messages) (framed m)

      grows : (d : Call) → accepted_bytes d ≤ accepted_bytes (g d)
      grows d =
          let long : accepted_bytes (g d) ≡ accepted_bytes d + length (framed m) = more d in omega (arith, long)

      -- no more bytes than are kept
      fits_now : commitment c u ≡ None → nat_le (held_bytes c u + length (framed m)) 262144 ≡ true
      fits_now none =
          let awaiting_config : is_some slot.call.buffer.committed ≡ false = has.committed ∙ ap (λ (z : Option Attempt). is_some z) none in
          ap (λ (n : ℕ). nat_le (n + length (framed m)) 262144) (sym (held_is u c slot.call.buffer has))
          ∙ fits_by (is_some slot.call.buffer.committed) (nat_lt (held slot.call.buffer) 65536) (nat_le (held slot.call.buffer + length (framed m)) 262144) (is_some row)
          (fault.Full (held slot.call.buffer)) awaiting_config (sym (answer_is slot.call.buffer m row) ∙ answer_kept slot.call.buffer m row roomy room)

      held_all : commitment c u ≡ None → held_bytes c u ≡ accepted_bytes c
      held_all none =
          ap (λ (z : Option Attempt). accepted_bytes c - option_map_or (λ (k : Attempt). drained k u) z 0) none ∙ (let same : accepted_bytes c - 0 ≡ accepted_bytes c = omega arith in same)

      own_by : (z : Option Attempt) → commitment c u ≡ z → is_overflowing va (g c) ≡ false
      own_by (Some k) e2 =
          and_first (is_free_call u c) (nat_lt 262144 (accepted_bytes (g c))) (has_outstanding c u)
          (ap (λ (w : Option Attempt). is_none c.end && is_none w) e2 ∙ and_none (is_none c.end))
      own_by None e2 =
          and_away (is_free_call u c) (nat_lt 262144 (accepted_bytes (g c))) (has_outstanding c u)
          (not_above (held_bytes c u + length (framed m)) (accepted_bytes (g c)) (fits_now e2) (more c ∙ ap (λ (n : ℕ). n + length (framed m)) (sym (held_all e2))))

      overflow_still : order.IsStill line.Overflow o u → order.IsStill line.Overflow qa va
      overflow_still none =
          none_each_changed (is_overflowing va) g c.number s0.calls
          (λ d e2. let same : c ≡ d = (let one : Some c ≡ Some d = sym own ∙ e2 in (cc)) in
          ap (λ (z : Call). is_overflowing va (g z)) (sym same) ∙ own_by (commitment c u) refl)
          (λ k d other e2. passes_not (is_overflowing u) s0.calls k d none e2)

      made : after (action.MessageAccepted c.number) u ≡ va
      made = ap (λ (z : Event). message_accepted c.number z u) is

      still_by : (l : Line) → stirs (action.MessageAccepted c.number) l ≡ false → order.IsStill l qa va
      still_by l away =
          subst (order.IsStill l qa) made
          (accepted_leaves c.number o u refl (m, is, numbers, short_now) l qa (ap (λ (z : Seen). z.current) made) away (to_order o u at.quiescent l))

      quiescent_now : (l : Line) → order.IsStill l qa va
      quiescent_now line.Overflow = overflow_still (to_order o u at.quiescent line.Overflow)
      quiescent_now l = still_by l refl

      send_accepted : Done
      send_accepted =
          let answered : IsAnswered (record x { book = record x.book { calls = asked_so.calls } }) reply.Done o u
          = reported_answered along s0 o reply.Done c (λ (z : Call). z.messages ++ m ∷ []) (λ (z : Call). z.finished) (λ (z : Call). z.taken) (λ (z : Call). z.end_taken) grows
          x h slot own sees longer asked_so.calls asked_so.put (serves_sent u c st m p0 unshut sees.serves short free is_open)
          (action.MessageAccepted c.number) made (record { acts = eq-eqb c.number c.number refl; passes = λ d mine off. refl })
          at fresh timely (next_is true e) (λ z. z) refl quiescent_now (no_frame reply.Done va) in
          subst (λ (r : Reply). IsAnswered y0 r o u) (sym (reply_is ∙ ap full_reply full_none))
          (subst (λ (z : StateSeen). IsAnswered z reply.Done o u) (sym asked_so.is) answered)

    send_open : (b : Bool) → is_accepted c m u ≡ b → Done
    send_open true e = send_accepted e
    send_open false e = send_full e

  module _ (short : steps.send_refusal slot.call ≡ None → parts.is_too_long slot.call.chosen (length m) ≡ false)
      (room : steps.send_refusal slot.call ≡ None → pushed_over slot.call.buffer (framed m) (parts.furthest slot.call.buffer slot.call.live) ≡ false) where
    send_free : refusal_by (is_some c.end) c.finished ≡ None → c.end ≡ None → Done
    send_free free is_open =
        let unrefused : steps.send_refusal slot.call ≡ None = refused_by u c st sees.serves None free in
        send_open free is_open (short unrefused) (room unrefused) (is_accepted c m u) refl

    send_by : (z : Option CallEnd) (b : Bool) → c.end ≡ z → c.finished ≡ b → Done
    send_by (Some k) b ez eb = send_refused refusal.CallEnded (ap (λ (w : Option CallEnd). refusal_by (is_some w) c.finished) ez)
    send_by None true ez eb = send_refused refusal.AfterFinish (ap (λ (w : Option CallEnd). refusal_by (is_some w) c.finished) ez ∙ ap (refusal_by false) eb)
    send_by None false ez eb = send_free (ap (λ (w : Option CallEnd). refusal_by (is_some w) c.finished) ez ∙ ap (refusal_by false) eb) ez

    pub send_done : Done
    send_done = send_by c.end c.finished refl refl

same_slot : (a b : CallSlot) → Some a ≡ Some b → a ≡ b
same_slot a b e = (cc)

pub sends : KeptAlong → EventsAnswered IsPlainSend
sends along x y r o s h at fresh timely case answers =
    let e : s ≡ with_open o s = is_with_open o s at.current in
    let kept : (x.shut ≡ false) × (lacks_call (slot_at x.book case.call) ≡ None)
    = unshut_by x.shut (lacks_call (slot_at x.book case.call)) (subst (λ (v : Event). channel.refusal_of v x ≡ None) case.event_is case.kept) in
    let given : AnswersBy None (event.Send case.call case.message) x y r
    = subst (λ (v : Event). AnswersBy None v x y r) case.event_is (subst (λ (z : Option Refusal). AnswersBy z o.event x y r) case.kept answers) in
    let now : Agrees x (with_open o s) = subst (Agrees x) e h in
    let k : Posted x (with_open o s) case.call = posted x (with_open o s) now case.call kept.1 in
    let same : case.call ≡ k.call.number = sym k.number_is in
    let slots : case.slot ≡ k.slot = same_slot case.slot k.slot (sym case.there ∙ k.there) in
    let done : IsAnswered (sent_to k.call.number case.message x).state (sent_to k.call.number case.message x).reply o (with_open o s)
    = send_done along x o s now (subst (IsAt stage.Event o) e at) fresh (subst (λ (z : Seen). next_deadline z ≡ None) e timely) k.call k.slot
    (ap (numbered s.calls) k.number_is ∙ k.at) (ap (slot_at x.book) k.number_is ∙ k.there) k.sees case.message
    (case.event_is ∙ ap (λ (n : ℕ). event.Send n case.message) same) (h.configs.shut ∙ kept.0)
    (λ free. ap (λ (z : CallSlot). parts.is_too_long z.call.chosen (length case.message)) (sym slots)
    ∙ case.short (ap (λ (z : CallSlot). steps.send_refusal z.call) slots ∙ free))
    (λ free. ap (λ (z : CallSlot). pushed_over z.call.buffer (framed case.message) (parts.furthest z.call.buffer z.call.live)) (sym slots)
    ∙ case.room (ap (λ (z : CallSlot). steps.send_refusal z.call) slots ∙ free)) in
    let here : IsAnswered y r o (with_open o s)
    = subst (λ (z : StateSeen). IsAnswered z r o (with_open o s)) (sym (given.0 ∙ ap (λ (n : ℕ). (sent_to n case.message x).state) same))
    (subst (λ (z : Reply). IsAnswered (sent_to k.call.number case.message x).state z o (with_open o s)) (sym (given.1 ∙ ap (λ (n : ℕ). (sent_to n case.message x).reply) same)) done) in
    subst (IsAnswered y r o) (sym e) here
