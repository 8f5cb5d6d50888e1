-- Commitment: a call is committed to one attempt, whose response the application gets (gRFC A6, "When Retries are Valid" and "Memory Management
-- (Buffering)").
-- Example: the hedged attempts 1 and 2 of a call are outstanding as rows 1 and 2, and the head of row 2 comes: `CallCommitted 2 Head`, and then row 1
-- is cut off. Had row 1 ended before that with a code that hedgingPolicy does not name, its end would commit the call: `CallCommitted 1 Final`.
use Rattle.std.specs.Prelude.{Bool, None, Option, Some, filter, find, if◌then◌else◌, is_none, is_some, nat_lt, option_map, ℕ, ◌&&◌, ◌==◌, ◌||◌}
use Rattle.session_actions.specs.Attempts.{commitment, is_counted, is_of, is_outstanding, marked_row, of_its_call, with_attempt}
use Rattle.session_actions.specs.DueAttempts.{is_final}
use Rattle.session_actions.specs.Entries.{entry}
use Rattle.session_actions.specs.Responses.{response}
use Rattle.session_actions.specs.Words.{first_of, foremost, holds}
use Rattle.session_actions.specs.Writing.{accepted_bytes, drained}
use Rattle.session_actions.specs.declared.action.Action.{Action}
use Rattle.session_actions.specs.declared.action.CommitCause.{CommitCause}
use Rattle.session_actions.specs.declared.attempt.Attempt.{Attempt}
use Rattle.session_actions.specs.declared.call.Call.{Call}
use Rattle.session_actions.specs.declared.seen.Seen.{Seen}
use Rattle.session_actions.specs.declared.action.Action.TheVariants as action
use Rattle.session_actions.specs.declared.action.CommitCause.TheVariants as commit
use Rattle.session_actions.specs.declared.call.MarkKind.TheVariants as mark

-- the call is open and is not committed
abbrev pub is_free_call : Seen → Call → Bool
is_free_call s c = is_none c.end && is_none (commitment c s)

-- a transparent retry takes over the commitment of the attempt that it follows
abbrev pub is_inherited_by : Attempt → Attempt → Bool
is_inherited_by a k = (k.row.number == a.row.number) && nat_lt k.place a.place

abbrev pub is_inherited_in : Attempt → Seen → Call → Bool
is_inherited_in a s c = is_none c.end && holds (is_inherited_by a) (commitment c s)

abbrev pub is_inherited : Seen → Attempt → Bool
is_inherited s a = is_none a.row.committed && of_its_call (is_inherited_in a s) a s

-- an end that counts and is final commits its attempt
abbrev pub is_final_in : Attempt → Seen → Call → Bool
is_final_in a s c = is_free_call s c && is_counted a s && is_final c a s

abbrev pub is_final_end : Seen → Attempt → Bool
is_final_end s a = of_its_call (λ c. is_final_in a s c) a s

-- the attempt that was drained furthest, the lowest number among equals
abbrev pub is_further : Seen → Attempt → Attempt → Bool
is_further s a b =
    nat_lt (drained b s) (drained a s) || ((drained a s == drained b s) && nat_lt a.row.number b.row.number)

abbrev pub furthest : Call → Seen → Option Attempt
furthest c s = foremost (is_further s) (filter (λ a. is_of c a && is_outstanding a) s.attempts)

-- more bytes of messages were accepted than are kept for attempts to come: the attempt that was drained furthest gets the call
abbrev pub overflow_row : Seen → Call → Option Attempt
overflow_row s c = if is_free_call s c && nat_lt 262144 (accepted_bytes c) then furthest c s else None

-- the head of its response came
abbrev pub has_head_in : Attempt → Seen → Call → Bool
has_head_in a s c = is_free_call s c && is_some (response a s).head

abbrev pub is_headed : Seen → Attempt → Bool
is_headed s a = is_outstanding a && of_its_call (has_head_in a s) a s

-- the next commitment of each kind
abbrev pub committing : CommitCause → Attempt → Action
committing why a = action.CallCommitted a.place why

abbrev pub next_inherited : Seen → Option Action
next_inherited s = option_map (committing commit.Inherited) (find (is_inherited s) s.attempts)

abbrev pub next_final : Seen → Option Action
next_final s = option_map (committing commit.Final) (find (is_final_end s) s.attempts)

abbrev pub next_overflow : Seen → Option Action
next_overflow s = option_map (committing commit.Overflow) (first_of (overflow_row s) s.calls)

abbrev pub next_headed : Seen → Option Action
next_headed s = option_map (committing commit.Head) (find (is_headed s) s.attempts)

-- what it adds
abbrev pub with_commitment : ℕ → Attempt → Attempt
with_commitment entry a = record a { row = record a.row { committed = Some entry } }

abbrev pub call_committed : ℕ → Seen → Seen
call_committed place s = marked_row mark.Committed place (with_attempt (with_commitment (entry s)) place s)
