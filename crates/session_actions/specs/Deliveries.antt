-- Delivery: which messages are accepted of the application, and what it takes of the response (gRPC, "Core concepts": unary and streaming calls; gRPC
-- over HTTP/2, "Length-Prefixed-Message"; gRFC A6, "Memory Management (Buffering)": the bounds are the channel's own).
-- Example: a call that is not committed holds a message of 262,134 bytes, which counts 262,139 with its prefix. The empty message fits, with 5 more.
-- One of 1 byte, which counts 6, does not: while no attempt is outstanding the answer is Full 262,139.
use Rattle.std.specs.Option.{option_map_or}
use Rattle.std.specs.Prelude.{Bool, List, None, Option, Some, [], false, if◌then◌else◌, is_some, length, map, nat_le, nat_lt, option_and_then, option_map, option_to_list, true, ℕ, ◌++◌, ◌+◌, ◌-◌, ◌||◌, ◌∷◌}
use Rattle.attempt_ledger.specs.declared.row.RowEnd.{RowEnd}
use Rattle.grpc_base.specs.Requests.{RequestSeen}
use Rattle.grpc_base.specs.declared.code.Code.{Code}
use Rattle.grpc_base.specs.declared.event.EndCause.{EndCause}
use Rattle.grpc_base.specs.declared.event.Event.{Event}
use Rattle.grpc_base.specs.declared.event.Reply.{Reply}
use Rattle.grpc_frame.specs.Messages.{framed}
use Rattle.session_actions.specs.Attempts.{commitment}
use Rattle.session_actions.specs.Calls.{with_call}
use Rattle.session_actions.specs.Commitments.{furthest}
use Rattle.session_actions.specs.Configs.{is_too_long}
use Rattle.session_actions.specs.Entries.{entry, now, replied}
use Rattle.session_actions.specs.Responses.{response}
use Rattle.session_actions.specs.Words.{numbered}
use Rattle.session_actions.specs.Writing.{accepted_bytes, drained}
use Rattle.session_actions.specs.declared.action.Action.{Action}
use Rattle.session_actions.specs.declared.call.Call.{Call}
use Rattle.session_actions.specs.declared.response.Response.{Response}
use Rattle.session_actions.specs.declared.seen.Seen.{Seen}
use Rattle.session_actions.specs.declared.action.Action.TheVariants as action
use Rattle.grpc_base.specs.declared.code.Code.TheVariants as code
use Rattle.grpc_base.specs.declared.event.EndCause.TheVariants as ending
use Rattle.grpc_base.specs.declared.event.Event.TheVariants as event
use Rattle.grpc_base.specs.declared.event.Reply.TheVariants as reply

-- how many bytes a call holds: all that were accepted, less those that were written for the attempt to which it is committed
abbrev pub held_bytes : Call → Seen → ℕ
held_bytes c s = accepted_bytes c - option_map_or (λ k. drained k s) (commitment c s) 0

-- a message that is not too long is accepted: of a committed call that holds less than 65,536 bytes; and else up to 262,144 bytes, or while an
-- attempt is outstanding, to which the call is then committed
abbrev pub is_accepted : Call → List ℕ → Seen → Bool
is_accepted c message s =
    if is_some (commitment c s) then nat_lt (held_bytes c s) 65536
    else nat_le (held_bytes c s + length (framed message)) 262144 || is_some (furthest c s)

-- what a Send does: a message that is too long ends the call
abbrev pub send_action : ℕ → List ℕ → Seen → Call → Action
send_action call message s c =
    if is_too_long message c s then action.EventAnswered reply.Done
    else if is_accepted c message s then action.MessageAccepted call
    else action.EventAnswered (reply.Full (held_bytes c s))

-- the code of an end by the channel; a call that ends by its attempt has the code of that attempt, and none of its own: UNKNOWN for it
-- is never given ("Status codes and their use in gRPC")
abbrev pub code_of_cause : EndCause → Code
code_of_cause ending.Deadline = code.DeadlineExceeded
code_of_cause ending.Cancelled = code.Cancelled
code_of_cause ending.Request = code.ResourceExhausted
code_of_cause ending.Response = code.ResourceExhausted
code_of_cause ending.NoConfig = code.Unavailable
code_of_cause ending.Shut = code.Unavailable
code_of_cause ending.Row = code.Unknown

abbrev pub is_by_row : EndCause → Bool
is_by_row ending.Row = true
is_by_row _ = false

-- the end of a call as the application gets it: that of its committed attempt, or the channel's. (A call that ends by its attempt is committed to one
-- that ended, so the default is never taken.)
abbrev pub end_by_channel : EndCause → Reply
end_by_channel why = reply.End (code_of_cause why) [] [] why

abbrev pub end_by_row : RowEnd → Reply
end_by_row e = reply.End e.code e.text e.meta ending.Row

abbrev pub end_item : Call → Seen → EndCause → Reply
end_item c s why =
    if is_by_row why then option_map_or end_by_row (option_and_then (λ k. k.row.ended) (commitment c s)) (end_by_channel why)
    else end_by_channel why

-- what a call has for its application: the head and the messages of the committed attempt's response, and then the end
abbrev pub response_items : Response → List Reply
response_items p = option_to_list (option_map (λ meta. reply.Head meta) p.head) ++ map (λ m. reply.Message m) p.messages

abbrev pub available : Call → Seen → List Reply
available c s =
    option_map_or (λ k. response_items (response k s)) (commitment c s) []
    ++ option_to_list (option_map (λ e. end_item c s e.cause) c.end)

abbrev pub next_item : Call → Seen → Option Reply
next_item c s = numbered (available c s) (c.taken + 1)

abbrev pub take_action : ℕ → Option Reply → Action
take_action call (Some item) = action.ItemTaken call item
take_action call None = action.EventAnswered reply.NotYet

-- what these add
abbrev pub begun_call : ℕ → ℕ → ℕ → RequestSeen → Call
begun_call number entry moment request = record {
  number = number;
  request = request;
  begun = entry;
  begun_at = moment;
  messages = [];
  finished = false;
  taken = 0;
  end_taken = false;
  config = None;
  configured = None;
  end = None;
  marks = [];
}

abbrev pub call_begun_by : Event → Seen → Seen
call_begun_by (event.Begin request) s =
    let number = length s.calls + 1 in
    replied (reply.Call number) (record s { calls = s.calls ++ begun_call number (entry s) (now s) request ∷ [] })
call_begun_by _ s = s

abbrev pub with_message : Event → Call → Call
with_message (event.Send call message) c = record c { messages = c.messages ++ message ∷ [] }
with_message _ c = c

abbrev pub message_accepted : ℕ → Event → Seen → Seen
message_accepted call e s = replied reply.Done (with_call (with_message e) call s)

abbrev pub request_finished : ℕ → Seen → Seen
request_finished call s = replied reply.Done (with_call (λ c. record c { finished = true }) call s)

abbrev pub is_end : Reply → Bool
is_end (reply.End c text meta why) = true
is_end _ = false

abbrev pub item_taken : ℕ → Reply → Seen → Seen
item_taken call item s = replied item (with_call (λ c. record c { taken = c.taken + 1; end_taken = is_end item }) call s)
