-- How an attempt ends: cut off by the client, by its pick, or by the wire; and what is stamped at its end (gRPC over HTTP/2, "Errors", and
-- "Connection Management": GOAWAY Frame, Connection failure; RFC 9113, sections 5.1, 5.4.2, 6.4, 6.8 and 8.1; gRFC A6, "Transparent Retries",
-- "Throttling Retry Attempts and Hedged RPCs", "Exponential Backoff" and "Pushback").
-- Example: a link is lost with two attempts on it, of two calls. The one with a stream ends UNAVAILABLE by Lost; the one without ends UNAVAILABLE by
-- Unsent, and a transparent retry follows it. No stream is reset, since the link is over.
use Rattle.std.specs.Option.{option_map_or, option_or}
use Rattle.std.specs.Prelude.{Bool, None, Option, Some, [], false, filter, if◌then◌else◌, is_none, is_some, not, option_and_then, option_map, true, ℕ, ◌&&◌, ◌++◌, ◌==◌, ◌||◌, ◌∷◌}
use Rattle.attempt_ledger.specs.Ends.{delay_of, is_cut}
use Rattle.attempt_ledger.specs.declared.row.RowCause.{RowCause}
use Rattle.attempt_ledger.specs.declared.row.RowEnd.{RowEnd}
use Rattle.grpc_base.specs.ErrorCodes.{cancel}
use Rattle.h2_frame.specs.Sent.{rst_stream_frame}
use Rattle.session_actions.specs.Attempts.{call_of, commitment, is_outstanding, is_over, is_to_follow, of_its_call, with_attempt}
use Rattle.session_actions.specs.Calls.{marked}
use Rattle.session_actions.specs.Configs.{config_of_call, plan_of}
use Rattle.session_actions.specs.DueAttempts.{is_licensed}
use Rattle.session_actions.specs.Entries.{drawn_if, entry, next_word, now}
use Rattle.session_actions.specs.Links.{has_written_end, is_retiring, is_stream_before, link_number, link_of, owed, read_bytes, stream_number}
use Rattle.session_actions.specs.Responses.{plain_end, response}
use Rattle.session_actions.specs.Tokens.{run_of, tokens_after, tokens_in}
use Rattle.session_actions.specs.Words.{changed, first_of, foremost, numbered}
use Rattle.session_actions.specs.declared.action.Action.{Action}
use Rattle.session_actions.specs.declared.attempt.Attempt.{Attempt}
use Rattle.session_actions.specs.declared.call.Call.{Call}
use Rattle.session_actions.specs.declared.config.ThrottleRun.{ThrottleRun}
use Rattle.session_actions.specs.declared.link.Link.{Link}
use Rattle.session_actions.specs.declared.response.Outcome.{Outcome}
use Rattle.session_actions.specs.declared.seen.Seen.{Seen}
use Rattle.session_actions.specs.declared.action.Action.TheVariants as action
use Rattle.attempt_ledger.specs.declared.row.RowCause.TheVariants as cause
use Rattle.grpc_base.specs.declared.code.Code.TheVariants as code
use Rattle.session_actions.specs.declared.call.MarkKind.TheVariants as mark

-- the client cuts it off; its pick failed; it was never sent; its link is over
abbrev pub cut_end : Outcome
cut_end = plain_end code.Cancelled cause.Cut false (Some cancel)

abbrev pub pick_end : Outcome
pick_end = plain_end code.Unavailable cause.Pick false (Some cancel)

abbrev pub unsent_end : Outcome
unsent_end = plain_end code.Unavailable cause.Unsent true (Some cancel)

abbrev pub lost_end : Outcome
lost_end = plain_end code.Unavailable cause.Lost false (Some cancel)

-- how the wire ends an attempt that is outstanding on a link, if it does. One without a stream ends where the link is over or takes no further
-- stream; one with a stream by its response, or else where the link is over
abbrev pub outcome_on : Attempt → Seen → Option ℕ → Link → Option Outcome
outcome_on a s None l = if is_some l.over || is_retiring l then Some unsent_end else None
outcome_on a s (Some stream) l = option_or (response a s).end (if is_some l.over then Some lost_end else None)

abbrev pub outcome_of : Attempt → Seen → Option Outcome
outcome_of a s = option_and_then (outcome_on a s a.row.stream) (link_of a s)

-- whether an end of an attempt will count: the client does not cut it off, and no transparent retry is to follow (the same as `counts_by` of the end,
-- before it is there)
abbrev pub will_count : Attempt → Outcome → Seen → Bool
will_count a t s = not (is_cut t.cause) && not (of_its_call (λ c. is_to_follow c t.cause t.unseen s) a s)

-- the tokens of its call's bucket after it, where there is one
abbrev pub tokens_counted : Attempt → Outcome → Seen → Call → ThrottleRun → ℕ
tokens_counted a t s c run =
    if will_count a t s then tokens_after run.throttle (plan_of c s) t.code t.pushback (tokens_in run s) else tokens_in run s

abbrev pub tokens_at : Attempt → Outcome → Seen → Call → Option ℕ
tokens_at a t s c = option_map (tokens_counted a t s c) (run_of c s)

abbrev pub tokens_at_end : Attempt → Outcome → Seen → Option ℕ
tokens_at_end a t s = option_and_then (tokens_at a t s) (call_of a s)

-- a random word is drawn where the end licenses a retry after a wait
abbrev pub is_drawing : Attempt → Outcome → Seen → Call → Bool
is_drawing a t s c =
    will_count a t s && is_none (commitment c s) && is_none (delay_of t.pushback)
    && is_licensed c a.row.number t.code t.pushback (tokens_at a t s c) s

-- the whole end: what the wire or the client says, stamped with the entry, the moment, the bytes of its link that were read, tokens and random word
abbrev pub end_of : Attempt → Outcome → Seen → RowEnd
end_of a t s = record {
  entry = entry s;
  moment = now s;
  code = t.code;
  text = t.text;
  meta = t.meta;
  pushback = t.pushback;
  unseen = t.unseen;
  seen = option_map_or read_bytes (link_of a s) 0;
  cause = t.cause;
  tokens = tokens_at_end a t s;
  word = if of_its_call (is_drawing a t s) a s then Some (next_word s) else None;
}

-- the next end by the wire, by place
abbrev pub wire_end : Seen → Attempt → Option Action
wire_end s a =
    if is_outstanding a && not (is_over a s) then option_map (λ t. action.AttemptEnds a.place (end_of a t s)) (outcome_of a s)
    else None

abbrev pub next_wire_end : Seen → Option Action
next_wire_end s = first_of (wire_end s) s.attempts

-- the next attempt that is cut off: it is outstanding, and its call has ended or is committed to another one
abbrev pub cut : Seen → Attempt → Option Action
cut s a = if is_outstanding a && is_over a s then Some (action.AttemptEnds a.place (end_of a cut_end s)) else None

abbrev pub next_cut : Seen → Option Action
next_cut s = first_of (cut s) s.attempts

-- the peer reset the stream; the peer broke a rule of the stream
abbrev pub is_reset : RowCause → Bool
is_reset cause.Reset = true
is_reset _ = false

abbrev pub is_framing : RowCause → Bool
is_framing cause.Framing = true
is_framing _ = false

-- the code of RST_STREAM for the stream of an attempt that ended: none where the peer reset it, its link is over, or both sides had closed it. It is
-- that of the stream error, and else CANCEL, also for a stream that GOAWAY left out (gRPC over HTTP/2, "Errors"; RFC 9113, sections 5.1, 5.4.2, 6.4
-- and 8.1)
abbrev pub code_to_reset : Attempt → RowEnd → ℕ → Seen → Link → Option ℕ
code_to_reset a e stream s l =
    if is_reset e.cause || is_some l.over || (has_written_end stream l && (response a s).closes) then None
    else if is_framing e.cause then option_and_then (λ t. t.reset) (response a s).end
    else Some cancel

-- it is queued once, in the entry in which the attempt ended
abbrev pub code_for_stream : Attempt → RowEnd → Seen → ℕ → Option ℕ
code_for_stream a e s stream =
    if (e.entry == entry s) && not a.reset then option_and_then (code_to_reset a e stream s) (link_of a s) else None

abbrev pub code_at_end : Attempt → Seen → RowEnd → Option ℕ
code_at_end a s e = option_and_then (code_for_stream a e s) a.row.stream

abbrev pub reset_code_of : Seen → Attempt → Option ℕ
reset_code_of s a = option_and_then (code_at_end a s) a.row.ended

abbrev pub reset_of : Seen → Attempt → Option Action
reset_of s a = option_map (λ number. action.StreamReset a.place number) (reset_code_of s a)

abbrev pub next_reset : Seen → Option Action
next_reset s = option_and_then (reset_of s) (foremost is_stream_before (filter (λ a. is_some (reset_code_of s a)) s.attempts))

-- what an end adds: its stamp; and where it counts its bucket changes, and a word may have been drawn
abbrev pub with_end_in_run : Attempt → RowEnd → Seen → Call → Seen
with_end_in_run a e s c =
    if not (is_cut e.cause) && not (is_to_follow c e.cause e.unseen s)
    then option_map_or (λ run. record s { runs = changed (λ u. record u { ends = u.ends ++ a.place ∷ [] }) run s.runs })
    (option_and_then (λ h. h.run) (config_of_call c s)) s
    else s

abbrev pub with_end : RowEnd → Attempt → Attempt
with_end e a = record a { row = record a.row { ended = Some e } }

abbrev pub attempt_ended_as : RowEnd → Seen → Attempt → Seen
attempt_ended_as e s a =
    drawn_if (is_some e.word)
    (marked (mark.Ended a.place) a.row.call
    (with_attempt (with_end e) a.place (option_map_or (with_end_in_run a e s) (call_of a s) s)))

abbrev pub attempt_ended : ℕ → RowEnd → Seen → Seen
attempt_ended place e s = option_map_or (attempt_ended_as e s) (numbered s.attempts place) s

abbrev pub with_reset_queued : Attempt → Attempt
with_reset_queued a = record a { reset = true }

abbrev pub stream_reset_of : ℕ → Seen → Attempt → Seen
stream_reset_of number s a =
    owed (rst_stream_frame (stream_number a) number ∷ []) (link_number a) (with_attempt with_reset_queued a.place s)

abbrev pub stream_reset : ℕ → ℕ → Seen → Seen
stream_reset place number s = option_map_or (stream_reset_of number s) (numbered s.attempts place) s
