-- A message for which an uncommitted call has no room is accepted while an attempt is outstanding, and commits the call to the one drained furthest.
use Rattle.std.proofs.Common.{◌≡◌, ◌<◌, ◌+◌, ◌-◌, ◌==◌, ◌∷◌, ◌++◌, ◌&&◌, ◌||◌, not, ap, arith, length-append, refl, subst, sym, ◌∙◌, Bool, true, false, List, [], Option, None, Some, ℕ, if◌then◌else◌, is_none, is_some, length, max, nat_le, nat_lt}
use Rattle.std.proofs.lemmas.Bool.{leb-false, lt-ltb, or_right}
use Rattle.std.specs.Option.{option_map, option_map_or}
use Rattle.attempt_buffer.specs.Buffers.{Buffered, held}
use Rattle.attempt_ledger.specs.declared.ledger.CallEnd.{CallEnd}
use Rattle.call_actions.proofs.Unconfigured.{some_still}
use Rattle.call_core.specs.Laws as channel
use Rattle.call_core.specs.Parts as parts
use Rattle.call_core.specs.Parts.{committed_buffer, pushed_buffer, pushed_over}
use Rattle.call_core.specs.Steps as steps
use Rattle.call_core.specs.Steps.{Stepped, accepted_if, committed_over, full_reply, full_with, with_message}
use Rattle.grpc_base.specs.declared.event.Event.{Event}
use Rattle.grpc_base.specs.declared.event.Event.TheVariants as event
use Rattle.grpc_base.specs.declared.event.Reply.{Reply}
use Rattle.grpc_base.specs.declared.event.Reply.TheVariants as reply
use Rattle.grpc_frame.specs.Messages.{framed, framed_all}
use Rattle.session_actions.specs.Actions.{after, after_if}
use Rattle.session_actions.specs.Attempts.{commitment, is_of, is_outstanding, is_over, is_over_in}
use Rattle.session_actions.specs.Commitments.{furthest, overflow_row}
use Rattle.session_actions.specs.Deliveries.{held_bytes, is_accepted, message_accepted, response_items}
use Rattle.session_actions.specs.Entries.{last_moment, now}
use Rattle.session_actions.specs.Responses.{response}
use Rattle.session_actions.specs.Words.{numbered}
use Rattle.session_actions.specs.Writing.{accepted_bytes, drained}
use Rattle.session_actions.specs.declared.action.Action.TheVariants as action
use Rattle.session_actions.specs.declared.attempt.Attempt.{Attempt}
use Rattle.session_actions.specs.declared.call.Call.{Call}
use Rattle.session_actions.specs.declared.entry.OpenEntry.{OpenEntry}
use Rattle.session_actions.specs.declared.seen.Seen.{Seen}
use Rattle.call_actions.proofs.TakeActions.Commits.{commits_cut_others}
use Rattle.call_actions.proofs.TakeActions.CutSees.{open_is}
use Rattle.call_actions.proofs.TakeActions.Heads.{none_by}
use Rattle.call_actions.proofs.TakeActions.Maps.{any_same, holds_or}
use Rattle.call_actions.proofs.TakeActions.Posted.{refusal_by}
use Rattle.call_actions.proofs.TakeActions.Retold.{read_same, response_same, reported}
use Rattle.call_actions.proofs.TakeActions.Room.{framed_more, held_is, no_fit, over_is, row_is}
use Rattle.call_actions.proofs.TakeActions.Sends.{action_is, full_is, longer_buffer, longer_call, reply_free, sent_call, serves_sent, step_free, then_sent}
use Rattle.call_actions.proofs.TakeActions.Takes.{answer, replied_is}
use Rattle.call_actions.specs.TakeActions.Cuts.{CanCommit, is_twin}
use Rattle.call_actions.specs.TakeActions.Laws.{IsCommitted, IsOverflow, IsPosted, SendsOverflow, reply_of}
use Rattle.call_actions.specs.TakeActions.Serves.{Holds, IsLeft, Serves, came, drained_so_far}

pub moment_by : (r : Reply) (o : Option OpenEntry) (d : ℕ) → option_map_or (λ (p : OpenEntry). p.moment) (option_map (answer r) o) d ≡ option_map_or (λ (p : OpenEntry). p.moment) o d
moment_by r None d = refl
moment_by r (Some p) d = refl

module _ (s : Seen) (c : Call) (x : Stepped) (k : Attempt) (m : List ℕ) (p : IsPosted (event.Send c.number m) s) (going : s.shut ≡ false) (h : Serves s c x)
    (unfinished : c.finished ≡ false) (can : CanCommit s c k) (far : furthest c s ≡ Some k) (none : response_items (response k s) ≡ [])
    (short : parts.is_too_long x.call.chosen (length m) ≡ false) (over : pushed_over x.call.buffer (framed m) (parts.furthest x.call.buffer x.call.live) ≡ true) where
  pub free : refusal_by (is_some c.end) c.finished ≡ None
  free = ap (λ (o : Option CallEnd). refusal_by (is_some o) c.finished) can.open_now ∙ ap (λ (b : Bool). refusal_by false b) unfinished

  pub has : Holds s c x.call.buffer
  has = h.holds can.open_now

  pub row_now : parts.furthest x.call.buffer x.call.live ≡ Some k.place
  row_now = row_is s c x h has ∙ ap (option_map (λ (a : Attempt). a.place)) far

  pub over_now : pushed_over x.call.buffer (framed m) (Some k.place) ≡ true
  over_now = sym (ap (pushed_over x.call.buffer (framed m)) row_now) ∙ over

  pub room : is_accepted c m s ≡ true
  room =
      ap (λ (o : Option Attempt). if is_some o then nat_lt (held_bytes c s) 65536 else (nat_le (held_bytes c s + length (framed m)) 262144 || is_some (furthest c s))) can.free
      ∙ or_right (nat_le (held_bytes c s + length (framed m)) 262144) (is_some (furthest c s)) (ap (λ (o : Option Attempt). is_some o) far)

  abbrev pub then_ : Seen
  then_ = then_sent s c x m p going h short free can.open_now

  abbrev pub call_then : Call
  call_then = sent_call s c x m p going h short free can.open_now

  abbrev pub longer : Buffered
  longer = longer_buffer s c x m p going h short free can.open_now

  abbrev pub step_then : Stepped
  step_then = longer_call s c x m p going h short free can.open_now

  pub after_is : after (action.MessageAccepted c.number) s ≡ then_
  after_is =
      ap (λ (o : Option OpenEntry). after_if o (action.MessageAccepted c.number) s) p.current ∙ ap (λ (z : Event). message_accepted c.number z s) p.event_is

  -- the commitment is possible then
  pub over_same : (a : Attempt) → is_over a then_ ≡ is_over a s
  over_same a =
      holds_or (λ (d : Call). is_over_in d a s) (numbered then_.calls a.row.call)
      ∙ read_same (reported s c (λ (q : Call). q.messages ++ m ∷ []) (λ (q : Call). q.finished) (λ (q : Call). q.taken) (λ (q : Call). q.end_taken) then_.current) c.number s.calls
      (λ (d : Call). is_over_in d a s) false (λ d. refl) a.row.call
      ∙ sym (holds_or (λ (d : Call). is_over_in d a s) (numbered s.calls a.row.call))

  pub twin_same : (a : Attempt) → is_twin then_ call_then k a ≡ is_twin s c k a
  twin_same a =
      ap (λ (b : Bool). ((is_of c a && (is_outstanding a || ((is_none a.row.placed && is_none a.row.ended) && not b))) && (k.row.number == a.row.number)) && not (k.place == a.place))
      (over_same a)

  pub can_then : CanCommit then_ call_then k
  can_then = record {
    at = can.at;
    mine = can.mine;
    outstanding = can.outstanding;
    open_now = can.open_now;
    free = can.free;
    alone = any_same (is_twin then_ call_then k) (is_twin s c k) twin_same s.attempts ∙ can.alone;
  }

  -- nothing came before
  pub inbox_empty : channel.came x.call ≡ []
  inbox_empty =
      let l : IsLeft (came c s) c.taken (channel.came x.call) = h.left (h.going can.open_now) in
      let empty : came c s ≡ [] = ap (λ (o : Option Attempt). option_map_or (λ (q : Attempt). response_items (response q s)) o []) can.free in
      none_by l.prefix (channel.came x.call) (sym l.joined ∙ empty)

  pub items_then : response_items (response k then_) ≡ channel.came x.call
  items_then =
      ap response_items (response_same s c (λ (q : Call). q.messages ++ m ∷ []) (λ (q : Call). q.finished) (λ (q : Call). q.taken) (λ (q : Call). q.end_taken) then_.current k)
      ∙ none ∙ sym inbox_empty

  pub opened_then : is_some then_.current ≡ true
  opened_then = some_still (answer reply.Done) s.current ∙ ap (λ (o : Option OpenEntry). is_some o) p.current

  pub now_then : now then_ ≡ now s
  now_then = moment_by reply.Done s.current (last_moment s)

  -- what the channel does
  pub sent_is : steps.sent m (now s) x
      ≡ steps.committed k.place (now then_) (record step_then { call = record step_then.call { buffer = committed_buffer k.place longer; inbox = x.call.inbox } })
  sent_is =
      step_free s c x m p going h short free can.open_now
      ∙ ap (λ (o : Option ℕ). accepted_if o m (now s) x) (full_is s c x m p going h short free can.open_now true room)
      ∙ ap (λ (row : Option ℕ). committed_over (pushed_over x.call.buffer (framed m) row) row (now s) (record x { call = with_message m row x.call })) row_now
      ∙ ap (λ (b : Bool). committed_over b (Some k.place) (now s) (record x { call = with_message m (Some k.place) x.call })) over_now
      ∙ ap (λ (b : Buffered). steps.committed k.place (now s) (record x { call = record x.call { longest = max x.call.longest (length m); buffer = b } }))
      (over_is x.call.buffer m k.place over_now (open_is s c x k h can s.current refl has))
      ∙ ap (λ (n : ℕ). steps.committed k.place n (record step_then { call = record step_then.call { buffer = committed_buffer k.place longer; inbox = x.call.inbox } })) (sym now_then)

  -- the session commits the call to this attempt
  pub overflow_then : overflow_row then_ call_then ≡ Some k
  overflow_then =
      let all : ℕ = length (framed_all c.messages) in
      let held_now : held x.call.buffer ≡ all - drained_so_far c s = held_is s c x.call.buffer has in
      let none_drained : drained_so_far c s ≡ 0 = ap (λ (o : Option Attempt). option_map_or (λ (q : Attempt). drained q s) o 0) can.free in
      let too_much : 262144 < held x.call.buffer + length (framed m)
      = leb-false (held x.call.buffer + length (framed m)) 262144 (no_fit x.call.buffer m k.place over_now) in
      let long : length (framed_all (c.messages ++ m ∷ [])) ≡ all + length (framed m) = ap length (framed_more c.messages m) ∙ length-append (framed_all c.messages) (framed m) in
      let beyond : 262144 < length (framed_all (c.messages ++ m ∷ [])) = omega (arith, held_now, none_drained, too_much, long) in
      ap (λ (o : Option CallEnd). if (is_none o && is_none (commitment c s)) && nat_lt 262144 (accepted_bytes call_then) then furthest c s else None) can.open_now
      ∙ ap (λ (o : Option Attempt). if is_none o && nat_lt 262144 (accepted_bytes call_then) then furthest c s else None) can.free
      ∙ ap (λ (b : Bool). if b then furthest c s else None) (lt-ltb 262144 (accepted_bytes call_then) beyond)
      ∙ far

  pub committed_then : IsCommitted then_ call_then k (steps.sent m (now s) x)
  committed_then =
      subst (IsCommitted then_ call_then k) (sym sent_is)
      (commits_cut_others then_ call_then step_then k x.call.inbox opened_then (serves_sent s c x m p going h short free can.open_now) can_then refl items_then)

  pub overflows : (steps.send_reply m x.call ≡ reply.Done) × IsOverflow s c k m x (steps.sent m (now s) x)
  overflows = (
    reply_free s c x m p going h short free can.open_now ∙ ap full_reply (full_is s c x m p going h short free can.open_now true room),
    record {
      next = action_is s c x m p going h short free can.open_now true room;
      replied = ap reply_of after_is ∙ replied_is s p.entry reply.Done p.current;
      call = call_then;
      number_is = refl;
      committing = ap (λ (t : Seen). overflow_row t call_then) after_is ∙ overflow_then;
      committed = subst (λ (t : Seen). IsCommitted t call_then k (steps.sent m (now s) x)) (sym after_is) committed_then;
    },
  )

pub sends_overflow : SendsOverflow
sends_overflow s c x k m p going h unfinished can far none short over = overflows s c x k m p going h unfinished can far none short over
