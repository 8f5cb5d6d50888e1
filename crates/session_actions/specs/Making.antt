-- Making attempts: a transparent retry at once, and any other where it is due (gRFC A6, "Transparent Retries", "Retry Policy", "Hedging Policy" and
-- "Throttling Retry Attempts and Hedged RPCs").
-- Example: maxAttempts is 3 and hedgingDelay 1 s; the call gets its config at 0 s. Attempt 1 is made and placed at 0 s; attempt 2 is due at 1 s and
-- made in the first entry from then on. Where the tokens are not above half in it, HedgeWithheld stands instead, and no further attempt is made.
use Rattle.std.specs.Prelude.{Bool, None, Option, Some, [], false, find, if◌then◌else◌, length, nat_le, not, option_and_then, option_map, ℕ, ◌&&◌, ◌++◌, ◌+◌, ◌∷◌}
use Rattle.attempt_ledger.specs.Hedging.{is_hedge}
use Rattle.attempt_ledger.specs.Numbering.{is_transparent}
use Rattle.attempt_ledger.specs.declared.row.Row.{Row}
use Rattle.attempt_ledger.specs.declared.row.RowKind.{RowKind}
use Rattle.session_actions.specs.Attempts.{wants_follower}
use Rattle.session_actions.specs.Calls.{is_open_call, marked}
use Rattle.session_actions.specs.DueAttempts.{attempts_made, kind_of_next, next_due}
use Rattle.session_actions.specs.Entries.{entry, now, with_turn}
use Rattle.session_actions.specs.Tokens.{has_tokens}
use Rattle.session_actions.specs.Words.{first_of}
use Rattle.session_actions.specs.declared.action.Action.{Action}
use Rattle.session_actions.specs.declared.attempt.Attempt.{Attempt}
use Rattle.session_actions.specs.declared.call.Call.{Call}
use Rattle.session_actions.specs.declared.seen.Seen.{Seen}
use Rattle.session_actions.specs.declared.action.Action.TheVariants as action
use Rattle.attempt_ledger.specs.declared.row.RowKind.TheVariants as kind
use Rattle.session_actions.specs.declared.call.MarkKind.TheVariants as mark

-- a transparent retry has the number of the attempt that it follows, and is due now
abbrev pub transparent_retry : Seen → Attempt → Action
transparent_retry s a = action.AttemptMade a.row.call a.row.number kind.Transparent (now s)

abbrev pub next_transparent : Seen → Option Action
next_transparent s = option_map (transparent_retry s) (find (λ a. wants_follower a s) s.attempts)

-- an attempt that is due is made; a hedge only while enough tokens are left, and none is made later if they were too few then
abbrev pub due_attempt : Call → Seen → ℕ → Action
due_attempt c s due =
    if is_hedge (kind_of_next c s) && not (has_tokens c s) then action.HedgeWithheld c.number
    else action.AttemptMade c.number (attempts_made c s + 1) (kind_of_next c s) due

abbrev pub due_if_past : Call → Seen → ℕ → Option Action
due_if_past c s due = if nat_le due (now s) then Some (due_attempt c s due) else None

abbrev pub due_action : Seen → Call → Option Action
due_action s c = if is_open_call c then option_and_then (due_if_past c s) (next_due c s) else None

abbrev pub next_due_attempt : Seen → Option Action
next_due_attempt s = first_of (due_action s) s.calls

-- what it adds: a row at the end of the ledger. Unless it is a transparent retry, a new pass over the queue begins
abbrev pub new_row : ℕ → ℕ → RowKind → ℕ → Row
new_row call number k due = record {
  call = call;
  number = number;
  kind = k;
  due = due;
  placed = None;
  stream = None;
  ended = None;
  committed = None;
}

abbrev pub with_row : Row → Seen → Seen
with_row row s =
    record s { attempts = s.attempts ++ record { place = length s.attempts + 1; row = row; made = entry s; reset = false } ∷ [] }

abbrev pub without_turn_unless : Bool → Seen → Seen
without_turn_unless keeps s = if keeps then s else with_turn None s

abbrev pub attempt_made : ℕ → ℕ → RowKind → ℕ → Seen → Seen
attempt_made call number k due s =
    without_turn_unless (is_transparent k)
    (marked (mark.Made (length s.attempts + 1)) call (with_row (new_row call number k due) s))

abbrev pub hedge_withheld : ℕ → Seen → Seen
hedge_withheld call s = with_turn None (marked mark.Withheld call s)
