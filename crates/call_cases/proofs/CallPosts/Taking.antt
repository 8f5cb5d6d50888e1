-- The application takes: the next item, nothing yet, or a refusal once the end was taken.
use Rattle.attempt_ledger.specs.declared.ledger.Ledger.{Ledger}
use Rattle.attempt_ledger.specs.declared.ledger.LinkSeen.{LinkSeen}
use Rattle.attempt_ledger.specs.declared.row.Row.{Row}
use Rattle.attempt_ledger.specs.declared.row.RowEnd.{RowEnd}
use Rattle.call_actions.proofs.Lists.{changed_here}
use Rattle.call_core.specs.Parts.{code_of, end_at, end_reply, first_of, is_by_row, rest_of, row_end_reply}
use Rattle.call_core.specs.Steps as steps
use Rattle.call_core.specs.Steps.{Stepped, ended_reply, item_reply, message_reply, taken_end, taken_item, taken_message, with_rest, without_head}
use Rattle.call_core.specs.declared.state.CallState.{CallState}
use Rattle.call_cases.proofs.CallPosts.Answered.{Posted, posted, put_is, put_none, to_order, reported_answered}
use Rattle.call_cases.proofs.CallPosts.Within.{IsWithin, item_within}
use Rattle.call_cases.specs.CallPosts.Cases.{IsTake}
use Rattle.channel_actions.proofs.Answering.{IsPlain, answered_so, plain_frame, refused_so, replied_entry}
use Rattle.channel_actions.proofs.Settles.{is_with_open, with_open}
use Rattle.channel_actions.specs.Agrees.{Agrees}
use Rattle.channel_actions.specs.Calls.{SeesCall, lent_to}
use Rattle.channel_actions.specs.Quiescent.{IsAt}
use Rattle.channel_actions.specs.Stages.{EventsAnswered, IsAnswered}
use Rattle.channel_core.specs.Applying as channel
use Rattle.channel_core.specs.Applying.{AnswersBy}
use Rattle.channel_core.specs.Arrivals.{taken_by, within_limit}
use Rattle.channel_core.specs.Books.{lacks_call, slot_at}
use Rattle.channel_core.specs.States.{StateSeen}
use Rattle.channel_core.specs.Tables.{changed_call, take_reply_of}
use Rattle.channel_core.specs.declared.state.slots.CallSlot.{CallSlot}
use Rattle.grpc_base.specs.declared.event.EndCause.{EndCause}
use Rattle.grpc_base.specs.declared.event.Event.{Event}
use Rattle.grpc_base.specs.declared.event.Event.TheVariants as event
use Rattle.grpc_base.specs.declared.event.Refusal.{Refusal}
use Rattle.grpc_base.specs.declared.event.Refusal.TheVariants as refusal
use Rattle.grpc_base.specs.declared.event.Reply.{Reply}
use Rattle.grpc_base.specs.declared.event.Reply.TheVariants as reply
use Rattle.grpc_base.specs.declared.fields.Field.{Field}
use Rattle.channel_actions.specs.KeptSessions.Laws.{KeptAlong}
use Rattle.session_actions.specs.Actions.{after}
use Rattle.session_actions.specs.CallEnds.{next_deadline}
use Rattle.session_actions.specs.Deliveries.{is_end, item_taken, next_item, take_action}
use Rattle.session_actions.specs.Events.{event_action, event_action_by}
use Rattle.session_actions.specs.Refusals.{refused_if, take_refusal}
use Rattle.session_actions.specs.Sessions.{link_seen}
use Rattle.session_actions.specs.Words.{numbered}
use Rattle.session_actions.specs.declared.action.Action.{Action}
use Rattle.session_actions.specs.declared.action.Action.TheVariants as action
use Rattle.session_actions.specs.declared.call.Call.{Call}
use Rattle.session_actions.specs.declared.entry.OpenEntry.{OpenEntry}
use Rattle.session_actions.specs.declared.entry.Stage.TheVariants as stage
use Rattle.session_actions.specs.declared.seen.Seen.{Seen}
use Rattle.session_order.proofs.Posts.{taken_leaves}
use Rattle.std.proofs.Common.{Bool, List, None, Option, Some, [], ap, arith, false, if◌then◌else◌, map, option_map, refl, subst, sym, true, ℕ, ◌+◌, ◌∙◌, ◌∷◌, ◌≡◌}
use Rattle.std.proofs.lemmas.Bool.{eq-eqb}
use Rattle.call_actions.proofs.TakeActions.Takes.{takes_are_items}
use Rattle.call_actions.specs.TakeActions.Laws as take_actions
use Rattle.call_actions.specs.TakeActions.Laws.{IsDone, reply_of}
use Rattle.call_actions.specs.TakeActions.Serves.{Serves}

-- a take that finds nothing changes nothing
end_some_by : (why : EndCause) (o : Option RowEnd) (b : Bool) → (if b then row_end_reply o else reply.End (code_of why) [] [] why) ≡ reply.NotYet → ⊥
end_some_by why None true e = absurd (cc)
end_some_by why (Some q) true e = absurd (cc)
end_some_by why o false e = absurd (cc)

end_some : (rows : List Row) (committed : Option ℕ) (why : EndCause) → end_reply rows committed why ≡ reply.NotYet → ⊥
end_some rows committed why e = end_some_by why (end_at rows committed) (is_by_row why) e

abbrev awaiting_config : CallState → Option (List Field) → List (List ℕ) → CallState
awaiting_config call head messages = record call { inbox = record call.inbox { head = head; messages = messages } }

nothing_ended : (ledger : Ledger) (call : CallState) (o : Option EndCause) → ended_reply o ledger call ≡ reply.NotYet → (k : CallState) → taken_end o k ≡ k
nothing_ended ledger call None e k = refl
nothing_ended ledger call (Some why) e k = absurd (end_some ledger.rows call.attempts.committed why e)

nothing_left : (ledger : Ledger) (call : CallState) (head : Option (List Field)) (messages : List (List ℕ)) → call.inbox.head ≡ head → call.inbox.messages ≡ messages
    → item_reply head ledger call ≡ reply.NotYet → taken_item head call ≡ call
nothing_left ledger call (Some meta) messages eh em e = absurd (cc)
nothing_left ledger call None (m ∷ ms) eh em e =
    let says : message_reply (first_of (m ∷ ms)) ledger call ≡ reply.NotYet = sym (ap (λ (l : List (List ℕ)). message_reply (first_of l) ledger call) em) ∙ e in absurd (cc)
nothing_left ledger call None [] eh em e =
    let says : ended_reply call.ended ledger call ≡ reply.NotYet = sym (ap (λ (l : List (List ℕ)). message_reply (first_of l) ledger call) em) ∙ e in
    ap (λ (l : List (List ℕ)). taken_message (first_of l) (without_head call)) em ∙ nothing_ended ledger call call.ended says (with_rest (without_head call))
    ∙ ap (λ (l : List (List ℕ)). awaiting_config call None (rest_of l)) em ∙ ap (λ (l : List (List ℕ)). awaiting_config call None l) (sym em) ∙ ap (λ (z : Option (List Field)). awaiting_config call z call.inbox.messages) (sym eh)

nothing_by : (ledger : Ledger) (call : CallState) (b : Bool) → call.inbox.is_end_taken ≡ b → steps.take_reply ledger call ≡ reply.NotYet → steps.taken call ≡ call
nothing_by ledger call true e says =
    let bad : reply.Refused refusal.CallEnded ≡ reply.NotYet = sym (ap (λ (b : Bool). if b then reply.Refused refusal.CallEnded else item_reply call.inbox.head ledger call) e) ∙ says in absurd (cc)
nothing_by ledger call false e says =
    ap (λ (b : Bool). if b then call else taken_item call.inbox.head call) e
    ∙ nothing_left ledger call call.inbox.head call.inbox.messages refl refl
    (sym (ap (λ (b : Bool). if b then reply.Refused refusal.CallEnded else item_reply call.inbox.head ledger call) e) ∙ says)

nothing_taken : (ledger : Ledger) (call : CallState) → steps.take_reply ledger call ≡ reply.NotYet → steps.taken call ≡ call
nothing_taken ledger call says = nothing_by ledger call call.inbox.is_end_taken refl says

-- what is taken hangs on no link of the ledger
module _ (l : Ledger) (links : List LinkSeen) (call : CallState) where
  ended_same : (o : Option EndCause) → ended_reply o (record l { links = links }) call ≡ ended_reply o l call
  ended_same None = refl
  ended_same (Some why) = refl

  message_same : (o : Option (List ℕ)) → message_reply o (record l { links = links }) call ≡ message_reply o l call
  message_same None = ended_same call.ended
  message_same (Some m) = refl

  item_same : (o : Option (List Field)) → item_reply o (record l { links = links }) call ≡ item_reply o l call
  item_same None = message_same (first_of call.inbox.messages)
  item_same (Some meta) = refl

  reply_same : steps.take_reply (record l { links = links }) call ≡ steps.take_reply l call
  reply_same = ap (λ (r : Reply). if call.inbox.is_end_taken then reply.Refused refusal.CallEnded else r) (item_same call.inbox.head)

same_reply : (a b : Reply) → Some a ≡ Some b → a ≡ b
same_reply a b e = (cc)

same_action : (a b : Action) → Some a ≡ Some b → a ≡ b
same_action a b e = (cc)

take_plain : (n : ℕ) → IsPlain (event.Take n)
take_plain n = record { cancels_none = λ m. refl; sends_none = λ d z. refl; no_result = refl; no_frame = λ q z. refl }

module _ (along : KeptAlong) (x : StateSeen) (o : OpenEntry) (s0 : Seen) (h : Agrees x (with_open o s0)) (at : IsAt stage.Event o (with_open o s0)) (fresh : o.turn ≡ None)
    (timely : next_deadline (with_open o s0) ≡ None) (c : Call) (slot : CallSlot) (own : numbered s0.calls c.number ≡ Some c) (there : slot_at x.book c.number ≡ Some slot)
    (sees : SeesCall x (with_open o s0) c slot) (is : o.event ≡ event.Take c.number) where
  abbrev u : Seen
  u = with_open o s0

  abbrev st : Stepped
  st = lent_to x u slot

  abbrev y0 : StateSeen
  y0 = (taken_by c.number x).state

  abbrev r0 : Reply
  r0 = (taken_by c.number x).reply

  abbrev Done : Type 0
  Done = IsAnswered y0 r0 o u

  -- what the channel answers
  abbrev says : Reply
  says = steps.take_reply st.ledger slot.call

  reply_is : (r : Reply) → IsWithin r → says ≡ r → r0 ≡ r
  reply_is r within e =
      ap (λ (z : Option CallSlot). within_limit (take_reply_of x.book.ledger z)) there ∙ ap within_limit (sym (reply_same x.book.ledger (map link_seen s0.links) slot.call) ∙ e) ∙ within

  unchanged : steps.taken slot.call ≡ slot.call → y0 ≡ x
  unchanged same =
      ap (λ (calls : List CallSlot). record x { book = record x.book { calls = calls } }) (put_none steps.taken x.book.calls c.number slot there same)

  -- and the session
  done : IsDone (event.Take c.number) u c.number says (record st { call = steps.taken slot.call })
  done = takes_are_items u c st (record { entry = o; current = refl; event_is = is }) sees.serves

  gives : (a : Action) → event_action (event.Take c.number) u ≡ Some a → event_action o.event u ≡ Some a
  gives a e = ap (λ (v : Event). event_action v u) is ∙ e

  acts : (a : Action) → event_action (event.Take c.number) u ≡ Some a → done.does ≡ a
  acts a e = same_action done.does a (sym done.next ∙ e)

  replies : (a : Action) (r : Reply) → event_action (event.Take c.number) u ≡ Some a → reply_of (after a u) ≡ Some r → says ≡ r
  replies a r e replied = same_reply says r (sym done.replied ∙ ap (λ (z : Action). reply_of (after z u)) (acts a e) ∙ replied)

  -- the end was taken
  ended : c.end_taken ≡ true → event_action (event.Take c.number) u ≡ Some (action.EventRefused refusal.CallEnded)
  ended e =
      ap (λ (z : Option Call). event_action_by (take_refusal z) (event.Take c.number) u) own
      ∙ ap (λ (b : Bool). event_action_by (refused_if b refusal.CallEnded None) (event.Take c.number) u) e

  take_refused : c.end_taken ≡ true → Done
  take_refused e =
      let over : slot.call.inbox.is_end_taken ≡ true = sym sees.serves.end_taken ∙ e in
      refused_so x y0 r0 refusal.CallEnded o u h at fresh timely (gives (action.EventRefused refusal.CallEnded) (ended e))
      (unchanged (ap (λ (b : Bool). if b then slot.call else taken_item slot.call.inbox.head slot.call) over))
      (reply_is (reply.Refused refusal.CallEnded) refl
      (replies (action.EventRefused refusal.CallEnded) (reply.Refused refusal.CallEnded) (ended e) refl))

  -- it was not
  module _ (e : c.end_taken ≡ false) where
    applied : (z : Option Reply) → next_item c u ≡ z → event_action (event.Take c.number) u ≡ Some (take_action c.number z)
    applied z item =
        ap (λ (w : Option Call). event_action_by (take_refusal w) (event.Take c.number) u) own
        ∙ ap (λ (b : Bool). event_action_by (refused_if b refusal.CallEnded None) (event.Take c.number) u) e
        ∙ ap (option_map (λ (k : Call). take_action c.number (next_item k u))) own
        ∙ ap (λ (w : Option Reply). Some (take_action c.number w)) item

    -- nothing has come
    take_nothing : next_item c u ≡ None → Done
    take_nothing none =
        let not_yet : says ≡ reply.NotYet = replies (action.EventAnswered reply.NotYet) reply.NotYet (applied None none) refl in
        answered_so x y0 r0 reply.NotYet o u (event.Take c.number) h at fresh timely is (take_plain c.number) (applied None none)
        (unchanged (nothing_taken st.ledger slot.call not_yet)) (reply_is reply.NotYet refl not_yet)

    -- an item
    module _ (item : Reply) (next : next_item c u ≡ Some item) where
      abbrev a : Action
      a = action.ItemTaken c.number item

      abbrev k : Call
      k = record c { taken = c.taken + 1; end_taken = is_end item }

      given : event_action (event.Take c.number) u ≡ Some a
      given = applied (Some item) next

      now_own : numbered (item_taken c.number item u).calls c.number ≡ Some k
      now_own = changed_here (λ (d : Call). record d { taken = d.taken + 1; end_taken = is_end item }) c.number s0.calls c own

      serves_by : (d : Call) → d.number ≡ c.number → Serves (item_taken c.number item u) d (record st { call = steps.taken slot.call })
          → Serves (item_taken c.number item u) k (record st { call = steps.taken slot.call })
      serves_by d number hs =
          let one : Some d ≡ Some k = sym hs.sees.own ∙ ap (numbered (item_taken c.number item u).calls) number ∙ now_own in
          let same : d ≡ k = (cc) in
          subst (λ (z : Call). Serves (item_taken c.number item u) z (record st { call = steps.taken slot.call })) same hs

      serves : Serves (item_taken c.number item u) k (record st { call = steps.taken slot.call })
      serves =
          let moved : take_actions.Agrees (after a u) c.number (record st { call = steps.taken slot.call })
          = subst (λ (z : Action). take_actions.Agrees (after z u) c.number (record st { call = steps.taken slot.call })) (acts a given) done.agrees in
          serves_by moved.call moved.number_is moved.serves

      take_item : Done
      take_item =
          let answered : IsAnswered y0 item o u
          = reported_answered along s0 o item c (λ (d : Call). d.messages) (λ (d : Call). d.finished) (λ (d : Call). d.taken + 1) (λ (d : Call). is_end item) (λ d. omega arith)
          x h slot own sees (steps.taken slot.call) (changed_call steps.taken x.book.calls c.number) (put_is steps.taken x.book.calls c.number slot there) serves
          a refl (record { acts = eq-eqb c.number c.number refl; passes = λ d mine off. refl })
          at fresh timely (gives a given) (λ z. z) refl
          (λ l. taken_leaves c.number item o u refl is l (replied_entry item o) refl refl (to_order o u at.quiescent l))
          (plain_frame item o (item_taken c.number item u) (event.Take c.number) is (take_plain c.number)) in
          subst (λ (r : Reply). IsAnswered y0 r o u) (sym (reply_is item (item_within c u item next) (replies a item given refl))) answered

    take_left : (z : Option Reply) → next_item c u ≡ z → Done
    take_left None none = take_nothing none
    take_left (Some item) next = take_item item next

  take_by : (b : Bool) → c.end_taken ≡ b → Done
  take_by true e = take_refused e
  take_by false e = take_left e (next_item c u) refl

  pub take_done : Done
  take_done = take_by c.end_taken refl

pub takes : KeptAlong → EventsAnswered IsTake
takes along x y r o s h at fresh timely case answers =
    let e : s ≡ with_open o s = is_with_open o s at.current in
    let kept : lacks_call (slot_at x.book case.call) ≡ None = subst (λ (v : Event). channel.refusal_of v x ≡ None) case.event_is case.kept in
    let given : AnswersBy None (event.Take case.call) x y r
    = subst (λ (v : Event). AnswersBy None v x y r) case.event_is (subst (λ (z : Option Refusal). AnswersBy z o.event x y r) case.kept answers) in
    let now : Agrees x (with_open o s) = subst (Agrees x) e h in
    let k : Posted x (with_open o s) case.call = posted x (with_open o s) now case.call kept in
    let same : case.call ≡ k.call.number = sym k.number_is in
    let done : IsAnswered (taken_by k.call.number x).state (taken_by k.call.number x).reply o (with_open o s)
    = take_done along x o s now (subst (IsAt stage.Event o) e at) fresh (subst (λ (z : Seen). next_deadline z ≡ None) e timely) k.call k.slot
    (ap (numbered s.calls) k.number_is ∙ k.at) (ap (slot_at x.book) k.number_is ∙ k.there) k.sees (case.event_is ∙ ap event.Take same) in
    let here : IsAnswered y r o (with_open o s)
    = subst (λ (z : StateSeen). IsAnswered z r o (with_open o s)) (sym (given.0 ∙ ap (λ (n : ℕ). (taken_by n x).state) same))
    (subst (λ (z : Reply). IsAnswered (taken_by k.call.number x).state z o (with_open o s)) (sym (given.1 ∙ ap (λ (n : ℕ). (taken_by n x).reply) same)) done) in
    subst (IsAnswered y r o) (sym e) here
