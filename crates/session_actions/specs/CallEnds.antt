-- How a call ends, once: by its committed attempt, or by the channel (gRPC, "Core concepts": Deadlines/Timeouts, Cancelling an RPC; "Service Config
-- in gRPC": timeout, maxRequestMessageBytes, maxResponseMessageBytes; "gRPC Wait for Ready Semantics"; "Status codes and their use in
-- gRPC"; gRFC A6, "When Retries are Valid").
-- Example: an event comes at 10, and the open calls 1, 2 and 3 have the deadlines 9, 7 and 11. Call 2 ends by its deadline, then call 1; then the
-- event is applied. A Cancel of call 1 is refused, since that call has ended.
use Rattle.std.specs.List.{list_any}
use Rattle.std.specs.Prelude.{Bool, Option, Some, false, filter, find, nat_le, nat_lt, not, option_map, true, unwrap_or, ℕ, ◌&&◌, ◌==◌, ◌||◌}
use Rattle.grpc_base.specs.declared.event.EndCause.{EndCause}
use Rattle.grpc_base.specs.declared.event.Event.{Event}
use Rattle.grpc_base.specs.declared.event.Reply.{Reply}
use Rattle.session_actions.specs.Attempts.{commitment, is_counted, is_outstanding}
use Rattle.session_actions.specs.Calls.{is_open_call, marked, with_call}
use Rattle.session_actions.specs.Configs.{deadline, is_too_long, is_unconfigured, waits_for_ready}
use Rattle.session_actions.specs.Entries.{entry, now}
use Rattle.session_actions.specs.Responses.{response}
use Rattle.session_actions.specs.Words.{foremost, holds}
use Rattle.session_actions.specs.declared.action.Action.{Action}
use Rattle.session_actions.specs.declared.call.Call.{Call}
use Rattle.session_actions.specs.declared.entry.OpenEntry.{OpenEntry}
use Rattle.session_actions.specs.declared.entry.Stage.{Stage}
use Rattle.session_actions.specs.declared.seen.Seen.{Seen}
use Rattle.session_actions.specs.declared.action.Action.TheVariants as action
use Rattle.grpc_base.specs.declared.event.EndCause.TheVariants as ending
use Rattle.grpc_base.specs.declared.event.Event.TheVariants as event
use Rattle.session_actions.specs.declared.call.MarkKind.TheVariants as mark
use Rattle.grpc_base.specs.declared.event.Reply.TheVariants as reply
use Rattle.session_actions.specs.declared.entry.Stage.TheVariants as stage

-- the committed attempt has an end that counts
abbrev pub is_over_by_row : Seen → Call → Bool
is_over_by_row s c = is_open_call c && holds (λ k. is_counted k s) (commitment c s)

-- an entry after its event: it was replied to, and not with a refusal
abbrev pub is_refusal : Reply → Bool
is_refusal (reply.Refused why) = true
is_refusal _ = false

abbrev pub is_replied : Stage → Bool
is_replied stage.Replied = true
is_replied _ = false

abbrev pub is_after_event : OpenEntry → Bool
is_after_event o = is_replied o.stage && holds (λ r. not (is_refusal r)) o.reply

-- the application cancelled it
abbrev pub cancels : Event → ℕ → Bool
cancels (event.Cancel call) number = call == number
cancels _ number = false

abbrev pub is_cancelled : OpenEntry → Call → Bool
is_cancelled o c = is_open_call c && is_after_event o && cancels o.event c.number

-- a message of its request is longer than allowed: one that was accepted, or the one of this entry
abbrev pub sends_too_long : Event → Call → Seen → Bool
sends_too_long (event.Send call message) c s = (call == c.number) && is_too_long message c s
sends_too_long _ c s = false

abbrev pub has_long_request : OpenEntry → Seen → Call → Bool
has_long_request o s c =
    is_open_call c
    && (list_any (λ m. is_too_long m c s) c.messages || (is_after_event o && sends_too_long o.event c s))

-- a message of its response is longer than allowed
abbrev pub has_long_response : Seen → Call → Bool
has_long_response s c = is_open_call c && holds (λ k. is_outstanding k && (response k s).large) (commitment c s)

-- the channel was shut down
abbrev pub is_shut_down : Seen → Call → Bool
is_shut_down s c = is_open_call c && s.shut

-- its deadline has come; of several the earliest first
abbrev pub is_past_deadline : Seen → Call → Bool
is_past_deadline s c = is_open_call c && holds (λ t. nat_le t (now s)) (deadline c s)

abbrev pub deadline_or : Call → Seen → ℕ
deadline_or c s = unwrap_or (deadline c s) 0

abbrev pub is_due_before : Seen → Call → Call → Bool
is_due_before s c d = nat_lt (deadline_or c s) (deadline_or d s)

-- the channel has no configuration, and the call does not wait for ready
abbrev pub lacks_config : Seen → Call → Bool
lacks_config s c = is_open_call c && is_unconfigured s && not (waits_for_ready c s)

-- the next call that ends, by cause
abbrev pub ending_call : EndCause → Call → Action
ending_call why c = action.CallEnds c.number why

abbrev pub next_ended : EndCause → (Call → Bool) → Seen → Option Action
next_ended why test s = option_map (ending_call why) (find test s.calls)

abbrev pub next_deadline : Seen → Option Action
next_deadline s = option_map (ending_call ending.Deadline) (foremost (is_due_before s) (filter (is_past_deadline s) s.calls))

-- what it adds
abbrev pub call_ended : ℕ → EndCause → Seen → Seen
call_ended call why s =
    with_call (λ c. record c { end = Some (record { entry = entry s; moment = now s; cause = why }) }) call (marked mark.Closed call s)
