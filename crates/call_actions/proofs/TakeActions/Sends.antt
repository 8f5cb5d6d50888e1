-- The application sends a message that its call's config allows, and that does not commit the call.
use Rattle.std.proofs.Common.{◌≡◌, ◌∷◌, ◌++◌, ◌&&◌, ap, refl, subst, sym, ◌∙◌, Bool, true, false, List, [], Option, None, Some, ℕ, if◌then◌else◌, is_some, length, max, nat_lt}
use Rattle.std.proofs.lemmas.Grind.{fold-append}
use Rattle.std.specs.Option.{option_map, option_map_or}
use Rattle.attempt_buffer.specs.Buffers.{Buffered, held}
use Rattle.attempt_ledger.specs.declared.ledger.CallEnd.{CallEnd}
use Rattle.call_actions.proofs.Unconfigured.{some_still}
use Rattle.call_actions.specs.Sees.{longest}
use Rattle.call_core.specs.Laws as channel
use Rattle.call_core.specs.Parts as parts
use Rattle.call_core.specs.Parts.{has_room, pushed_buffer, pushed_over}
use Rattle.call_core.specs.Steps as steps
use Rattle.call_core.specs.Steps.{Stepped, accepted, accepted_if, committed_over, full_reply, full_with, sent_free, sent_free_reply, with_message}
use Rattle.grpc_base.specs.declared.event.EndCause.TheVariants as ending
use Rattle.grpc_base.specs.declared.event.Event.{Event}
use Rattle.grpc_base.specs.declared.event.Event.TheVariants as event
use Rattle.grpc_base.specs.declared.event.Refusal.{Refusal}
use Rattle.grpc_base.specs.declared.event.Refusal.TheVariants as refusal
use Rattle.grpc_base.specs.declared.event.Reply.{Reply}
use Rattle.grpc_base.specs.declared.event.Reply.TheVariants as reply
use Rattle.grpc_base.specs.declared.plan.Chosen.{Chosen}
use Rattle.grpc_frame.specs.Messages.{framed}
use Rattle.service_config.specs.Choice.{chosen_for}
use Rattle.session_actions.specs.Configs.{config_of_call, is_too_long, no_choice}
use Rattle.session_actions.specs.Deliveries.{held_bytes, is_accepted, message_accepted, send_action}
use Rattle.session_actions.specs.Entries.{now}
use Rattle.session_actions.specs.Events.{event_action, event_action_by}
use Rattle.session_actions.specs.declared.action.Action.TheVariants as action
use Rattle.session_actions.specs.declared.call.Call.{Call}
use Rattle.session_actions.specs.declared.config.HeldConfig.{HeldConfig}
use Rattle.session_actions.specs.declared.entry.OpenEntry.{OpenEntry}
use Rattle.session_actions.specs.declared.seen.Seen.{Seen}
use Rattle.call_actions.proofs.TakeActions.Posted.{refusal_by, refused_by, session_refusal}
use Rattle.call_actions.proofs.TakeActions.Retold.{came_same, resumed, sees_reported, reported}
use Rattle.call_actions.proofs.TakeActions.Room.{committed_is, fed_longer, held_is, held_longer, pushed_is, room_is}
use Rattle.call_actions.proofs.TakeActions.Takes.{answer, answered, done, replied_is}
use Rattle.call_actions.specs.TakeActions.Laws.{Agrees, IsDone, IsPosted, SendsAreAnswered}
use Rattle.call_actions.specs.TakeActions.Serves.{Holds, IsLeft, Serves}

-- whether a message is too long, by the config of its call
pub long_by : (message path : List ℕ) (config : Option ℕ) (o : Option HeldConfig) → is_some config ≡ is_some o
    → (is_some config && nat_lt (option_map_or (λ (h : HeldConfig). chosen_for h.config path) o no_choice).request (length message))
    ≡ parts.is_too_long (option_map (λ (h : HeldConfig). chosen_for h.config path) o) (length message)
long_by message path config None e =
    ap (λ (b : Bool). b && nat_lt no_choice.request (length message)) e
long_by message path config (Some h) e =
    ap (λ (b : Bool). b && nat_lt (chosen_for h.config path).request (length message)) e

pub long_is : (s : Seen) (c : Call) (x : Stepped) (message : List ℕ) → Serves s c x → is_too_long message c s ≡ parts.is_too_long x.call.chosen (length message)
long_is s c x message h =
    long_by message c.request.path c.config (config_of_call c s) h.config ∙ ap (λ (o : Option Chosen). parts.is_too_long o (length message)) h.sees.chosen

-- the longest message so far
pub longest_more : (messages : List (List ℕ)) (m : List ℕ) → longest (messages ++ m ∷ []) ≡ max (longest messages) (length m)
longest_more messages m = fold-append (λ (n : ℕ) (l : List ℕ). max n (length l)) 0 messages (m ∷ [])

pub not_over : (row : Option ℕ) (moment : ℕ) (y : Stepped) → committed_over false row moment y ≡ y
not_over None moment y = refl
not_over (Some row) moment y = refl

module _ (s : Seen) (c : Call) (x : Stepped) (m : List ℕ) (p : IsPosted (event.Send c.number m) s) (going : s.shut ≡ false) (h : Serves s c x)
    (short : parts.is_too_long x.call.chosen (length m) ≡ false) where
  abbrev pub row_now : Option ℕ
  row_now = parts.furthest x.call.buffer x.call.live

  abbrev pub Sent : Reply → Stepped → Type 0
  Sent r y = IsDone (event.Send c.number m) s c.number r y

  abbrev pub Goal : Type 0
  Goal = Sent (steps.send_reply m x.call) (steps.sent m (now s) x)

  -- it is refused
  pub send_refused : (why : Refusal) → refusal_by (is_some c.end) c.finished ≡ Some why → Goal
  send_refused why e =
      let reported_why : steps.send_refusal x.call ≡ Some why = refused_by s c x h (Some why) e in
      let next : event_action (event.Send c.number m) s ≡ Some (action.EventRefused why)
      = ap (λ (o : Option Refusal). event_action_by o (event.Send c.number m) s) (session_refusal s c x h going (Some why) e) in
      let refused : Sent (reply.Refused why) x = answered (event.Send c.number m) s c (reply.Refused why) x p (action.EventRefused why) next refl h in
      subst (Sent (steps.send_reply m x.call)) (sym (ap (λ (o : Option Refusal). steps.sent_if o m (now s) x) reported_why))
      (subst (λ (r : Reply). Sent r x) (sym (ap (λ (o : Option Refusal). steps.send_reply_if o m x.call) reported_why)) refused)

  -- it is not: the call is open
  module _ (free : refusal_by (is_some c.end) c.finished ≡ None) (is_open : c.end ≡ None) where
    pub has : Holds s c x.call.buffer
    has = h.holds is_open

    pub reply_free : steps.send_reply m x.call ≡ full_reply (full_with (length m) x.call)
    reply_free =
        ap (λ (o : Option Refusal). steps.send_reply_if o m x.call) (refused_by s c x h None free)
        ∙ ap (λ (b : Bool). if b then reply.Done else full_reply (full_with (length m) x.call)) short

    pub step_free : steps.sent m (now s) x ≡ accepted_if (full_with (length m) x.call) m (now s) x
    step_free =
        ap (λ (o : Option Refusal). steps.sent_if o m (now s) x) (refused_by s c x h None free)
        ∙ ap (λ (b : Bool). if b then steps.ended_as ending.Request (now s) x else accepted_if (full_with (length m) x.call) m (now s) x) short

    pub full_is : (b : Bool) → is_accepted c m s ≡ b → full_with (length m) x.call ≡ (if b then None else Some (held x.call.buffer))
    full_is b e = ap (λ (t : Bool). if t then None else Some (held x.call.buffer)) (room_is s c x h has m ∙ e)

    pub action_is : (b : Bool) → is_accepted c m s ≡ b
        → event_action (event.Send c.number m) s ≡ Some (if b then action.MessageAccepted c.number else action.EventAnswered (reply.Full (held_bytes c s)))
    action_is b e =
        ap (λ (o : Option Refusal). event_action_by o (event.Send c.number m) s) (session_refusal s c x h going None free)
        ∙ ap (option_map (send_action c.number m s)) h.sees.own
        ∙ ap (λ (t : Bool). Some (if t then action.EventAnswered reply.Done
        else if is_accepted c m s then action.MessageAccepted c.number else action.EventAnswered (reply.Full (held_bytes c s)))) (long_is s c x m h ∙ short)
        ∙ ap (λ (t : Bool). Some (if t then action.MessageAccepted c.number else action.EventAnswered (reply.Full (held_bytes c s)))) e

    -- there is no room
    pub send_full : is_accepted c m s ≡ false → Goal
    send_full e =
        let full : full_with (length m) x.call ≡ Some (held x.call.buffer) = full_is false e in
        let held_now : reply.Full (held_bytes c s) ≡ reply.Full (held x.call.buffer) = sym (ap (λ (n : ℕ). reply.Full n) (held_is s c x.call.buffer has)) in
        let reported_full : Sent (reply.Full (held_bytes c s)) x
        = answered (event.Send c.number m) s c (reply.Full (held_bytes c s)) x p (action.EventAnswered (reply.Full (held_bytes c s))) (action_is false e) refl h in
        subst (Sent (steps.send_reply m x.call)) (sym (step_free ∙ ap (λ (o : Option ℕ). accepted_if o m (now s) x) full))
        (subst (λ (r : Reply). Sent r x) (sym (reply_free ∙ ap full_reply full ∙ sym held_now)) reported_full)

    -- it is accepted
    abbrev pub longer_buffer : Buffered
    longer_buffer = record x.call.buffer { messages = x.call.buffer.messages ++ framed m ∷ [] }

    abbrev pub longer_call : Stepped
    longer_call = resumed x.call.is_finished (max x.call.longest (length m)) longer_buffer x.call.inbox x

    abbrev pub sent_open : Option OpenEntry
    sent_open = option_map (answer reply.Done) s.current

    abbrev pub sent_call : Call
    sent_call = reported s c (λ (k : Call). k.messages ++ m ∷ []) (λ (k : Call). k.finished) (λ (k : Call). k.taken) (λ (k : Call). k.end_taken) sent_open c

    abbrev pub then_sent : Seen
    then_sent = message_accepted c.number (event.Send c.number m) s

    pub serves_sent : Serves then_sent sent_call longer_call
    serves_sent = record {
      sees = sees_reported s c (λ (k : Call). k.messages ++ m ∷ []) (λ (k : Call). k.finished) (λ (k : Call). k.taken) (λ (k : Call). k.end_taken) sent_open x
          x.call.is_finished (max x.call.longest (length m)) longer_buffer x.call.inbox h.sees.finished
          (longest_more c.messages m ∙ ap (λ (n : ℕ). max n (length m)) h.sees.longest_is) (some_still (answer reply.Done) s.current) h.sees;
      places = h.places;
      config = h.config;
      links = h.links;
      reads = h.reads;
      counted = h.counted;
      end_taken = h.end_taken;
      going = h.going;
      left = λ e. subst (λ (all : List Reply). IsLeft all c.taken (channel.came x.call))
          (sym (came_same s c (λ (k : Call). k.messages ++ m ∷ []) (λ (k : Call). k.finished) (λ (k : Call). k.taken) (λ (k : Call). k.end_taken) sent_open)) (h.left e);
      holds = λ e. record { fed = fed_longer s c x.call.buffer m has; held = held_longer s c x.call.buffer m has; committed = has.committed };
    }

    pub accepted_is : is_accepted c m s ≡ true → pushed_over x.call.buffer (framed m) row_now ≡ false → accepted m (now s) x ≡ longer_call
    accepted_is e over =
        let room : has_room (is_some x.call.buffer.committed) (is_some row_now) (held x.call.buffer) (length m) ≡ true
        = ap (λ (t : Bool). has_room t (is_some row_now) (held x.call.buffer) (length m)) (has.committed ∙ sym (committed_is s c x h has)) ∙ room_is s c x h has m ∙ e in
        ap (λ (t : Bool). committed_over t row_now (now s) (record x { call = with_message m row_now x.call })) over
        ∙ not_over row_now (now s) (record x { call = with_message m row_now x.call })
        ∙ ap (λ (b : Buffered). resumed x.call.is_finished (max x.call.longest (length m)) b x.call.inbox x) (pushed_is x.call.buffer m row_now room over)

    pub send_now : is_accepted c m s ≡ true → pushed_over x.call.buffer (framed m) row_now ≡ false → Goal
    send_now e over =
        let full : full_with (length m) x.call ≡ None = full_is true e in
        let agrees : Agrees then_sent c.number longer_call = record { call = sent_call; number_is = refl; serves = serves_sent } in
        let made : message_accepted c.number p.entry.event s ≡ then_sent = ap (λ (z : Event). message_accepted c.number z s) p.event_is in
        let sent_now : Sent reply.Done longer_call
        = done (event.Send c.number m) s c.number reply.Done longer_call p (action.MessageAccepted c.number) then_sent (action_is true e) made
        (replied_is s p.entry reply.Done p.current) agrees in
        subst (Sent (steps.send_reply m x.call)) (sym (step_free ∙ ap (λ (o : Option ℕ). accepted_if o m (now s) x) full ∙ accepted_is e over))
        (subst (λ (r : Reply). Sent r longer_call) (sym (reply_free ∙ ap full_reply full)) sent_now)

    pub send_free : (b : Bool) → is_accepted c m s ≡ b → pushed_over x.call.buffer (framed m) row_now ≡ false → Goal
    send_free true e over = send_now e over
    send_free false e over = send_full e

  pub send_by : (o : Option CallEnd) (f : Bool) → c.end ≡ o → c.finished ≡ f → pushed_over x.call.buffer (framed m) row_now ≡ false → Goal
  send_by (Some e) f eo ef over = send_refused refusal.CallEnded (ap (λ (z : Option CallEnd). refusal_by (is_some z) c.finished) eo)
  send_by None true eo ef over =
      send_refused refusal.AfterFinish (ap (λ (z : Option CallEnd). refusal_by (is_some z) c.finished) eo ∙ ap (λ (b : Bool). refusal_by false b) ef)
  send_by None false eo ef over =
      send_free (ap (λ (z : Option CallEnd). refusal_by (is_some z) c.finished) eo ∙ ap (λ (b : Bool). refusal_by false b) ef) eo (is_accepted c m s) refl over

pub sends_are_answered : SendsAreAnswered
sends_are_answered s c x m p going h short over = send_by s c x m p going h short c.end c.finished refl refl over
