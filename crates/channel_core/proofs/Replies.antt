-- Each event gets a reply that it may get.
use Rattle.std.proofs.Common.{◌≡◌, ℕ, Bool, true, false, nat_lt, if◌then◌else◌, List, length, refl, arith, inl, inr, Option, Some, None, subst, sym}
use Rattle.std.specs.Option.{is_some}
use Rattle.std.proofs.lemmas.Bool.{cases_Bool, ltb-false}
use Rattle.grpc_base.specs.Limits.{message_limit}
use Rattle.grpc_base.specs.Posts.{MayReply}
use Rattle.grpc_base.specs.declared.event.EndCause.{EndCause}
use Rattle.grpc_base.specs.declared.event.Event.TheVariants as event
use Rattle.grpc_base.specs.declared.event.Refusal.{Refusal}
use Rattle.grpc_base.specs.declared.event.Refusal.TheVariants as refusal
use Rattle.grpc_base.specs.declared.event.Reply.TheVariants as reply
use Rattle.grpc_base.specs.declared.fields.Field.{Field}
use Rattle.attempt_ledger.specs.declared.ledger.Ledger.{Ledger}
use Rattle.attempt_ledger.specs.declared.row.RowEnd.{RowEnd}
use Rattle.call_core.specs.Parts.{channel_end, end_at, first_of, is_by_row, is_too_long, row_end_reply}
use Rattle.call_core.specs.Steps.{ended_reply, finish_reply_if, full_reply, full_with, item_reply, message_reply, send_reply_if}
use Rattle.call_core.specs.declared.state.CallState.{CallState}
use Rattle.channel_net.specs.declared.replies.Dialing.{Dialing}
use Rattle.channel_net.specs.Steps.{dial_refusal}
use Rattle.subchannel.specs.Records.{SubRecord, is_dialing}
use Rattle.channel_core.specs.Arrivals.{dial_failed_for, dial_reply, linked_for, too_long_end, within_limit}
use Rattle.channel_core.specs.Books.{lacks_call}
use Rattle.channel_core.specs.States.{StateSeen}
use Rattle.channel_core.specs.Tables.{cancel_reply_of, finish_reply_of, send_reply_of, take_reply_of}
use Rattle.channel_core.specs.declared.state.slots.CallSlot.{CallSlot}

-- why a call takes no message
abbrev send_refusal_by : Bool → Bool → Option Refusal
send_refusal_by ended finished = if ended then Some refusal.CallEnded else if finished then Some refusal.AfterFinish else None

send_free : (call : ℕ) (message : List ℕ) (long : Bool) (held : Option ℕ) → MayReply (event.Send call message) (if long then reply.Done else full_reply held)
send_free call message true held = tt
send_free call message false None = tt
send_free call message false (Some held) = tt

send_by : (call : ℕ) (message : List ℕ) (ended finished : Bool) (c : CallState) → MayReply (event.Send call message) (send_reply_if (send_refusal_by ended finished) message c)
send_by call message true finished c = (2, omega arith, refl)
send_by call message false true c = (3, omega arith, refl)
send_by call message false false c = send_free call message (is_too_long c.chosen (length message)) (full_with (length message) c)

pub may_send : (call : ℕ) (message : List ℕ) (slot : Option CallSlot) → MayReply (event.Send call message) (send_reply_of message slot)
may_send call message None = tt
may_send call message (Some slot) = send_by call message (is_some slot.call.ended) slot.call.is_finished slot.call

finish_by : (call : ℕ) (ended finished : Bool) → MayReply (event.Finish call) (finish_reply_if (send_refusal_by ended finished))
finish_by call true finished = (2, omega arith, refl)
finish_by call false true = (3, omega arith, refl)
finish_by call false false = tt

pub may_finish : (call : ℕ) (slot : Option CallSlot) → MayReply (event.Finish call) (finish_reply_of slot)
may_finish call None = tt
may_finish call (Some slot) = finish_by call (is_some slot.call.ended) slot.call.is_finished

cancel_by : (call : ℕ) (ended : Bool) → MayReply (event.Cancel call) (if ended then reply.Refused refusal.CallEnded else reply.Done)
cancel_by call true = (2, omega arith, refl)
cancel_by call false = tt

pub may_cancel : (call : ℕ) (slot : Option CallSlot) → MayReply (event.Cancel call) (cancel_reply_of slot)
may_cancel call None = tt
may_cancel call (Some slot) = cancel_by call (is_some slot.call.ended)

-- what a call gives
row_end : (call : ℕ) (end : Option RowEnd) → MayReply (event.Take call) (within_limit (row_end_reply end))
row_end call None = tt
row_end call (Some end) = tt

end_by : (call : ℕ) (by_row : Bool) (why : EndCause) (end : Option RowEnd) → MayReply (event.Take call) (within_limit (if by_row then row_end_reply end else channel_end why))
end_by call true why end = row_end call end
end_by call false why end = tt

end_taken : (call : ℕ) (why : Option EndCause) (ledger : Ledger) (c : CallState) → MayReply (event.Take call) (within_limit (ended_reply why ledger c))
end_taken call None ledger c = tt
end_taken call (Some why) ledger c = end_by call (is_by_row why) why (end_at ledger.rows c.attempts.committed)

message_within : (call : ℕ) (octets : List ℕ) → MayReply (event.Take call) (within_limit (reply.Message octets))
message_within call octets =
    let P : Bool → Type 0 = λ b. MayReply (event.Take call) (if b then too_long_end else reply.Message octets) in
    elim (cases_Bool (nat_lt message_limit (length octets))) [
      | inl long ↦ subst P (sym long) tt
      | inr fits ↦ subst P (sym fits) (ltb-false message_limit (length octets) fits)
    ]

message_taken : (call : ℕ) (octets : Option (List ℕ)) (ledger : Ledger) (c : CallState) → MayReply (event.Take call) (within_limit (message_reply octets ledger c))
message_taken call None ledger c = end_taken call c.ended ledger c
message_taken call (Some octets) ledger c = message_within call octets

item_taken : (call : ℕ) (meta : Option (List Field)) (ledger : Ledger) (c : CallState) → MayReply (event.Take call) (within_limit (item_reply meta ledger c))
item_taken call None ledger c = message_taken call (first_of c.inbox.messages) ledger c
item_taken call (Some meta) ledger c = tt

take_by : (call : ℕ) (over : Bool) (ledger : Ledger) (c : CallState) → MayReply (event.Take call) (within_limit (if over then reply.Refused refusal.CallEnded else item_reply c.inbox.head ledger c))
take_by call true ledger c = (1, omega arith, refl)
take_by call false ledger c = item_taken call c.inbox.head ledger c

pub may_take : (call : ℕ) (ledger : Ledger) (slot : Option CallSlot) → lacks_call slot ≡ None → MayReply (event.Take call) (within_limit (take_reply_of ledger slot))
may_take call ledger None there = absurd (let no : ⊥ = (cc) in no)
may_take call ledger (Some slot) there = take_by call slot.call.inbox.is_end_taken ledger slot.call

-- dials
link_by : (sub : ℕ) (dialing : Bool) (s : StateSeen) → MayReply (event.LinkUp sub) (linked_for (if dialing then None else Some refusal.NotDialing) sub s).reply
link_by sub true s = tt
link_by sub false s = (2, omega arith, refl)

pub may_link : (sub : ℕ) (of_sub : Option SubRecord) (s : StateSeen) → MayReply (event.LinkUp sub) (linked_for (dial_refusal of_sub) sub s).reply
may_link sub None s = (1, omega arith, refl)
may_link sub (Some r) s = link_by sub (is_dialing r) s

failed_by : (sub : ℕ) (dialing : Bool) (s : StateSeen) → MayReply (event.DialFailed sub) (dial_failed_for (if dialing then None else Some refusal.NotDialing) sub s).reply
failed_by sub true s = tt
failed_by sub false s = (2, omega arith, refl)

pub may_fail : (sub : ℕ) (of_sub : Option SubRecord) (s : StateSeen) → MayReply (event.DialFailed sub) (dial_failed_for (dial_refusal of_sub) sub s).reply
may_fail sub None s = (1, omega arith, refl)
may_fail sub (Some r) s = failed_by sub (is_dialing r) s

pub may_dial : (dialing : Option Dialing) → MayReply event.TakeDial (dial_reply dialing)
may_dial None = tt
may_dial (Some d) = tt
