-- RST_STREAM that is queued for an attempt that ended is of its stream alone: it leaves what session and channel have of the attempt's own call too. (What an action
-- leaves of other calls is in `calls_apart` and `takes_apart`.)
-- Example: call 1 is cancelled, and attempt 1 of it ends, cut off. Its stream 3 is reset: call 1 has ended as before, with the same rows, and its application has
-- the same to take.
use Rattle.std.specs.Prelude.{ℕ, ◌≡◌}
use Rattle.call_actions.specs.Order.{IsInOrder, IsInTurn}
use Rattle.call_core.specs.Steps.{Stepped}
use Rattle.session_actions.specs.AttemptEnds.{with_reset_queued}
use Rattle.session_actions.specs.Attempts.{with_attempt}
use Rattle.session_actions.specs.DueAttempts.{next_due}
use Rattle.session_actions.specs.declared.call.Call.{Call}
use Rattle.session_actions.specs.declared.seen.Seen.{Seen}
use Rattle.call_actions.specs.TakeActions.Serves.{Serves}

-- that the stream of an attempt is reset is noted of the attempt: its call is as before, in the channel's words and in the session's
abbrev pub reset_noted : ℕ → Seen → Seen
reset_noted place s = with_attempt with_reset_queued place s

pub record LeavesCall (s t : Seen) : Type 0 where
  pub serves : (c : Call) (x : Stepped) → Serves s c x → Serves t c x
  pub order : (c : Call) → IsInOrder s c → IsInOrder t c
  pub turn : (c : Call) → IsInTurn s c → IsInTurn t c
  pub due : (c : Call) → next_due c t ≡ next_due c s

abbrev pub ResetsLeaveCalls : Type 0
ResetsLeaveCalls = (s : Seen) (place : ℕ) → LeavesCall s (reset_noted place s)
