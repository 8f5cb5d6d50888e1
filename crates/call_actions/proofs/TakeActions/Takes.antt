-- The application takes what came: the next item of the session is what the channel gives.
use Rattle.std.proofs.Common.{◌≡◌, ◌+◌, ◌∷◌, ◌++◌, ap, refl, subst, sym, ◌∙◌, append_assoc, Bool, true, false, List, [], Option, None, Some, ℕ, if◌then◌else◌, is_some}
use Rattle.std.proofs.lemmas.Bool.{both_ways}
use Rattle.std.specs.Option.{option_and_then, option_map, option_map_or}
use Rattle.attempt_ledger.specs.declared.ledger.CallEnd.{CallEnd}
use Rattle.attempt_ledger.specs.declared.row.RowEnd.{RowEnd}
use Rattle.call_actions.proofs.Unconfigured.{some_still}
use Rattle.call_core.specs.Laws as channel
use Rattle.call_core.specs.Parts.{first_of, rest_of}
use Rattle.call_core.specs.Steps as steps
use Rattle.call_core.specs.Steps.{Stepped, ended_reply, item_reply, message_reply, taken_end, taken_item, taken_message, with_rest, without_head}
use Rattle.call_core.specs.declared.inbox.Inbox.{Inbox}
use Rattle.call_core.specs.declared.state.CallState.{CallState}
use Rattle.grpc_base.specs.declared.event.EndCause.{EndCause}
use Rattle.grpc_base.specs.declared.event.EndCause.TheVariants as ending
use Rattle.grpc_base.specs.declared.event.Event.{Event}
use Rattle.grpc_base.specs.declared.event.Event.TheVariants as event
use Rattle.grpc_base.specs.declared.event.Refusal.TheVariants as refusal
use Rattle.grpc_base.specs.declared.event.Reply.{Reply}
use Rattle.grpc_base.specs.declared.event.Reply.TheVariants as reply
use Rattle.grpc_base.specs.declared.fields.Field.{Field}
use Rattle.session_actions.specs.Actions.{after, after_if, after_in}
use Rattle.session_actions.specs.Attempts.{commitment}
use Rattle.session_actions.specs.Deliveries.{end_by_channel, end_by_row, end_item, is_end, item_taken, next_item, take_action}
use Rattle.session_actions.specs.Entries.{replied}
use Rattle.session_actions.specs.Events.{event_action, event_action_by}
use Rattle.session_actions.specs.Refusals.{refused_if, take_refusal}
use Rattle.session_actions.specs.declared.action.Action.{Action}
use Rattle.session_actions.specs.declared.action.Action.TheVariants as action
use Rattle.session_actions.specs.declared.attempt.Attempt.{Attempt}
use Rattle.session_actions.specs.declared.call.Call.{Call}
use Rattle.session_actions.specs.declared.entry.OpenEntry.{OpenEntry}
use Rattle.session_actions.specs.declared.entry.Stage.TheVariants as stage
use Rattle.session_actions.specs.declared.seen.Seen.{Seen}
use Rattle.call_actions.proofs.TakeActions.Items.{end_is, next_end, next_is, waits_head, waits_messages}
use Rattle.call_actions.proofs.TakeActions.Lists.{longer}
use Rattle.call_actions.proofs.TakeActions.Retold.{came_same, sees_reported, serves_still, reported}
use Rattle.call_actions.specs.TakeActions.Laws.{Agrees, IsDone, IsPosted, TakesAreItems, reply_of}
use Rattle.call_actions.specs.TakeActions.Serves.{Holds, IsLeft, Serves, came}

-- the entry, once its event is answered
abbrev pub answer : Reply → OpenEntry → OpenEntry
answer r o = record o { stage = stage.Replied; reply = Some r }

pub replied_is : (s : Seen) (o : OpenEntry) (r : Reply) → s.current ≡ Some o → reply_of (replied r s) ≡ Some r
replied_is s o r e = ap (λ (z : Option OpenEntry). option_and_then (λ (p : OpenEntry). p.reply) (option_map (answer r) z)) e

-- an action of the event is done
pub done : (e : Event) (s : Seen) (n : ℕ) (r : Reply) (x : Stepped) (p : IsPosted e s) (a : Action) (t : Seen) → event_action e s ≡ Some a
    → after_in p.entry a s ≡ t → reply_of t ≡ Some r → Agrees t n x → IsDone e s n r x
done e s n r x p a t next made says agrees =
    let same : after a s ≡ t = ap (λ (o : Option OpenEntry). after_if o a s) p.current ∙ made in
    record { does = a; next = next; replied = ap reply_of same ∙ says; agrees = subst (λ (u : Seen). Agrees u n x) (sym same) agrees }

-- one that only answers it
pub answered : (e : Event) (s : Seen) (c : Call) (r : Reply) (x : Stepped) (p : IsPosted e s) (a : Action) → event_action e s ≡ Some a
    → after_in p.entry a s ≡ replied r s → Serves s c x → IsDone e s c.number r x
answered e s c r x p a next made h =
    let agrees : Agrees (replied r s) c.number x
    = record { call = c; number_is = refl; serves = serves_still s c x (option_map (answer r) s.current) (some_still (answer r) s.current) h } in
    done e s c.number r x p a (replied r s) next made (replied_is s p.entry r p.current) agrees

module _ (s : Seen) (c : Call) (x : Stepped) (p : IsPosted (event.Take c.number) s) (h : Serves s c x) where
  abbrev pub Taken : Reply → CallState → Type 0
  Taken r k = IsDone (event.Take c.number) s c.number r (record x { call = k })

  -- the end was taken before
  pub taken_before : c.end_taken ≡ true → Taken (steps.take_reply x.ledger x.call) (steps.taken x.call)
  taken_before e =
      let over : x.call.inbox.is_end_taken ≡ true = sym h.end_taken ∙ e in
      let reply_is : steps.take_reply x.ledger x.call ≡ reply.Refused refusal.CallEnded
      = ap (λ (b : Bool). if b then reply.Refused refusal.CallEnded else item_reply x.call.inbox.head x.ledger x.call) over in
      let call_is : steps.taken x.call ≡ x.call = ap (λ (b : Bool). if b then x.call else taken_item x.call.inbox.head x.call) over in
      let next : event_action (event.Take c.number) s ≡ Some (action.EventRefused refusal.CallEnded)
      = ap (λ (o : Option Call). event_action_by (take_refusal o) (event.Take c.number) s) h.sees.own
      ∙ ap (λ (b : Bool). event_action_by (refused_if b refusal.CallEnded None) (event.Take c.number) s) e in
      let refused : Taken (reply.Refused refusal.CallEnded) x.call
      = answered (event.Take c.number) s c (reply.Refused refusal.CallEnded) x p (action.EventRefused refusal.CallEnded) next refl h in
      subst (Taken (steps.take_reply x.ledger x.call)) (sym call_is) (subst (λ (r : Reply). Taken r x.call) (sym reply_is) refused)

  -- it was not
  module _ (e : c.end_taken ≡ false) where
    pub free : x.call.inbox.is_end_taken ≡ false
    free = sym h.end_taken ∙ e

    pub left : IsLeft (came c s) c.taken (channel.came x.call)
    left = h.left e

    pub action_is : (o : Option Reply) → next_item c s ≡ o → event_action (event.Take c.number) s ≡ Some (take_action c.number o)
    action_is o item =
        ap (λ (z : Option Call). event_action_by (take_refusal z) (event.Take c.number) s) h.sees.own
        ∙ ap (λ (b : Bool). event_action_by (refused_if b refusal.CallEnded None) (event.Take c.number) s) e
        ∙ ap (option_map (λ (k : Call). take_action c.number (next_item k s))) h.sees.own
        ∙ ap (λ (z : Option Reply). Some (take_action c.number z)) item

    pub reply_of_head : steps.take_reply x.ledger x.call ≡ item_reply x.call.inbox.head x.ledger x.call
    reply_of_head = ap (λ (b : Bool). if b then reply.Refused refusal.CallEnded else item_reply x.call.inbox.head x.ledger x.call) free

    pub call_of_head : steps.taken x.call ≡ taken_item x.call.inbox.head x.call
    call_of_head = ap (λ (b : Bool). if b then x.call else taken_item x.call.inbox.head x.call) free

    -- an item is taken
    abbrev pub now_open : Reply → Option OpenEntry
    now_open item = option_map (answer item) s.current

    abbrev pub then_called : Reply → Call
    then_called item = reported s c (λ (k : Call). k.messages) (λ (k : Call). k.finished) (λ (k : Call). k.taken + 1) (λ (k : Call). is_end item) (now_open item) c

    abbrev pub with_inbox : Inbox → CallState
    with_inbox i = record x.call { inbox = i }

    pub serves_taken : (item : Reply) (i : Inbox) → is_end item ≡ i.is_end_taken → (c.end ≡ None → is_end item ≡ false)
        → (is_end item ≡ false → IsLeft (came c s) (c.taken + 1) (channel.came (with_inbox i)))
        → Serves (item_taken c.number item s) (then_called item) (record x { call = with_inbox i })
    serves_taken item i ends goes rest =
        let still : is_some (now_open item) ≡ is_some s.current = some_still (answer item) s.current in
        record {
          sees = sees_reported s c (λ (k : Call). k.messages) (λ (k : Call). k.finished) (λ (k : Call). k.taken + 1) (λ (k : Call). is_end item) (now_open item) x
              x.call.is_finished x.call.longest x.call.buffer i h.sees.finished h.sees.longest_is still h.sees;
          places = h.places;
          config = h.config;
          links = h.links;
          reads = h.reads;
          counted = h.counted;
          end_taken = ends;
          going = goes;
          left = λ f. subst (λ (all : List Reply). IsLeft all (c.taken + 1) (channel.came (with_inbox i)))
              (sym (came_same s c (λ (k : Call). k.messages) (λ (k : Call). k.finished) (λ (k : Call). k.taken + 1) (λ (k : Call). is_end item) (now_open item))) (rest f);
          holds = λ is_open. let k : Holds s c x.call.buffer = h.holds is_open in record { fed = k.fed; held = k.held; committed = k.committed };
        }

    pub took : (item : Reply) (i : Inbox) → next_item c s ≡ Some item → is_end item ≡ i.is_end_taken → (c.end ≡ None → is_end item ≡ false)
        → (is_end item ≡ false → IsLeft (came c s) (c.taken + 1) (channel.came (with_inbox i)))
        → item_reply x.call.inbox.head x.ledger x.call ≡ item → taken_item x.call.inbox.head x.call ≡ with_inbox i
        → Taken (steps.take_reply x.ledger x.call) (steps.taken x.call)
    took item i next ends goes rest says becomes =
        let agrees : Agrees (item_taken c.number item s) c.number (record x { call = with_inbox i })
        = record { call = then_called item; number_is = refl; serves = serves_taken item i ends goes rest } in
        let taken_now : Taken item (with_inbox i)
        = done (event.Take c.number) s c.number item (record x { call = with_inbox i }) p (action.ItemTaken c.number item) (item_taken c.number item s)
        (action_is (Some item) next) refl (replied_is s p.entry item p.current) agrees in
        subst (Taken (steps.take_reply x.ledger x.call)) (sym (call_of_head ∙ becomes))
        (subst (λ (r : Reply). Taken r (with_inbox i)) (sym (reply_of_head ∙ says)) taken_now)

    -- what is left after it
    pub one_less : (item : Reply) (others : List Reply) (i : Inbox) → channel.came x.call ≡ item ∷ others → channel.came (with_inbox i) ≡ others
        → IsLeft (came c s) (c.taken + 1) (channel.came (with_inbox i))
    one_less item others i was is_now = record {
      prefix = left.prefix ++ (item ∷ []);
      count = longer left.prefix item c.taken left.count;
      joined = left.joined ∙ ap (λ (z : List Reply). left.prefix ++ z) was ∙ sym (append_assoc left.prefix (item ∷ []) others)
          ∙ ap (λ (z : List Reply). (left.prefix ++ (item ∷ [])) ++ z) (sym is_now);
    }

    pub take_head : (meta : List Field) → x.call.inbox.head ≡ Some meta → Taken (steps.take_reply x.ledger x.call) (steps.taken x.call)
    take_head meta eh =
        let i : Inbox = record x.call.inbox { head = None } in
        let messages : List Reply = channel.message_items x.call.inbox.messages in
        let was : channel.came x.call ≡ reply.Head meta ∷ messages = waits_head x.call.inbox.head x.call.inbox.messages meta eh in
        took (reply.Head meta) i (next_is c s (channel.came x.call) left (reply.Head meta) messages was) (sym free) (λ f. refl)
        (λ f. one_less (reply.Head meta) messages i was refl)
        (ap (λ (o : Option (List Field)). item_reply o x.ledger x.call) eh) (ap (λ (o : Option (List Field)). taken_item o x.call) eh)

    pub take_message : (m : List ℕ) (ms : List (List ℕ)) → x.call.inbox.head ≡ None → x.call.inbox.messages ≡ m ∷ ms
        → Taken (steps.take_reply x.ledger x.call) (steps.taken x.call)
    take_message m ms eh em =
        let i : Inbox = record x.call.inbox { head = None; messages = rest_of x.call.inbox.messages } in
        let was : channel.came x.call ≡ reply.Message m ∷ channel.message_items ms
        = waits_messages x.call.inbox.head x.call.inbox.messages eh ∙ ap channel.message_items em in
        let is_now : channel.came (with_inbox i) ≡ channel.message_items ms = ap (λ (l : List (List ℕ)). channel.message_items (rest_of l)) em in
        took (reply.Message m) i (next_is c s (channel.came x.call) left (reply.Message m) (channel.message_items ms) was) (sym free) (λ f. refl)
        (λ f. one_less (reply.Message m) (channel.message_items ms) i was is_now)
        (ap (λ (o : Option (List Field)). item_reply o x.ledger x.call) eh ∙ ap (λ (l : List (List ℕ)). message_reply (first_of l) x.ledger x.call) em)
        (ap (λ (o : Option (List Field)). taken_item o x.call) eh ∙ ap (λ (l : List (List ℕ)). taken_message (first_of l) (without_head x.call)) em)

    -- nothing is left but the end
    pub none_left : x.call.inbox.head ≡ None → x.call.inbox.messages ≡ [] → channel.came x.call ≡ []
    none_left eh em = waits_messages x.call.inbox.head x.call.inbox.messages eh ∙ ap channel.message_items em

    pub reply_of_end : x.call.inbox.head ≡ None → x.call.inbox.messages ≡ [] → item_reply x.call.inbox.head x.ledger x.call ≡ ended_reply x.call.ended x.ledger x.call
    reply_of_end eh em =
        ap (λ (o : Option (List Field)). item_reply o x.ledger x.call) eh ∙ ap (λ (l : List (List ℕ)). message_reply (first_of l) x.ledger x.call) em

    pub call_of_end : x.call.inbox.head ≡ None → x.call.inbox.messages ≡ [] → taken_item x.call.inbox.head x.call ≡ taken_end x.call.ended (with_rest (without_head x.call))
    call_of_end eh em =
        ap (λ (o : Option (List Field)). taken_item o x.call) eh ∙ ap (λ (l : List (List ℕ)). taken_message (first_of l) (without_head x.call)) em

    pub ended_is : (o : Option CallEnd) → c.end ≡ o → x.call.ended ≡ option_map (λ (e : CallEnd). e.cause) o
    ended_is o ee = sym h.sees.ended ∙ ap (option_map (λ (e : CallEnd). e.cause)) ee

    pub some_not : {X : Type 0} {y : X} → Some y ≡ None → ⊥
    some_not e = (cc)

    pub is_end_by : (o : Option RowEnd) → is_end (option_map_or end_by_row o (end_by_channel ending.Row)) ≡ true
    is_end_by None = refl
    is_end_by (Some e) = refl

    pub is_end_item : (why : EndCause) → is_end (end_item c s why) ≡ true
    is_end_item ending.Row = is_end_by (option_and_then (λ (k : Attempt). k.row.ended) (commitment c s))
    is_end_item ending.Deadline = refl
    is_end_item ending.Cancelled = refl
    is_end_item ending.Request = refl
    is_end_item ending.Response = refl
    is_end_item ending.NoConfig = refl
    is_end_item ending.Shut = refl

    pub take_the_end : (end : CallEnd) → x.call.inbox.head ≡ None → x.call.inbox.messages ≡ [] → c.end ≡ Some end
        → Taken (steps.take_reply x.ledger x.call) (steps.taken x.call)
    take_the_end end eh em ee =
        let item : Reply = end_item c s end.cause in
        let i : Inbox = record x.call.inbox { head = None; messages = rest_of x.call.inbox.messages; is_end_taken = true } in
        let cause : x.call.ended ≡ Some end.cause = ended_is (Some end) ee in
        took item i
        (next_end c s (channel.came x.call) left (none_left eh em) ∙ ap (option_map (λ (e : CallEnd). end_item c s e.cause)) ee)
        (is_end_item end.cause) (λ f. absurd (some_not (sym ee ∙ f)))
        (λ f. absurd (both_ways (is_end item) f (is_end_item end.cause)))
        (reply_of_end eh em ∙ ap (λ (o : Option EndCause). ended_reply o x.ledger x.call) cause ∙ sym (end_is s c x h end.cause))
        (call_of_end eh em ∙ ap (λ (o : Option EndCause). taken_end o (with_rest (without_head x.call))) cause)

    -- or nothing at all
    pub take_nothing : x.call.inbox.head ≡ None → x.call.inbox.messages ≡ [] → c.end ≡ None → Taken (steps.take_reply x.ledger x.call) (steps.taken x.call)
    take_nothing eh em ee =
        let going : x.call.ended ≡ None = ended_is None ee in
        let reply_is : steps.take_reply x.ledger x.call ≡ reply.NotYet
        = reply_of_head ∙ reply_of_end eh em ∙ ap (λ (o : Option EndCause). ended_reply o x.ledger x.call) going in
        let call_is : steps.taken x.call ≡ x.call
        = call_of_head ∙ call_of_end eh em ∙ ap (λ (o : Option EndCause). taken_end o (with_rest (without_head x.call))) going
        ∙ ap (λ (l : List (List ℕ)). with_inbox (record x.call.inbox { head = None; messages = rest_of l })) em
        ∙ ap (λ (l : List (List ℕ)). with_inbox (record x.call.inbox { head = None; messages = l })) (sym em)
        ∙ ap (λ (o : Option (List Field)). with_inbox (record x.call.inbox { head = o })) (sym eh) in
        let next : next_item c s ≡ None
        = next_end c s (channel.came x.call) left (none_left eh em) ∙ ap (option_map (λ (e : CallEnd). end_item c s e.cause)) ee in
        let not_yet : Taken reply.NotYet x.call
        = answered (event.Take c.number) s c reply.NotYet x p (action.EventAnswered reply.NotYet) (action_is None next) refl h in
        subst (Taken (steps.take_reply x.ledger x.call)) (sym call_is) (subst (λ (r : Reply). Taken r x.call) (sym reply_is) not_yet)

    pub take_left : (head : Option (List Field)) (messages : List (List ℕ)) (ended : Option CallEnd) → x.call.inbox.head ≡ head → x.call.inbox.messages ≡ messages → c.end ≡ ended
        → Taken (steps.take_reply x.ledger x.call) (steps.taken x.call)
    take_left (Some meta) messages ended eh em ee = take_head meta eh
    take_left None (m ∷ ms) ended eh em ee = take_message m ms eh em
    take_left None [] (Some end) eh em ee = take_the_end end eh em ee
    take_left None [] None eh em ee = take_nothing eh em ee

  pub take_by : (b : Bool) → c.end_taken ≡ b → Taken (steps.take_reply x.ledger x.call) (steps.taken x.call)
  take_by true e = taken_before e
  take_by false e = take_left e x.call.inbox.head x.call.inbox.messages c.end refl refl refl

pub takes_are_items : TakesAreItems
takes_are_items s c x p h = take_by s c x p h c.end_taken refl
