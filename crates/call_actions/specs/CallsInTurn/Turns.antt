-- What a session keeps of a call's attempts from one action to the next, beside what `call_actions` asks for (`IsInOrder`, `IsInTurn`): no attempt of the
-- call waits for its follower, since a transparent retry follows at once or never (gRFC A6, "Transparent Retries").
-- Example: attempt 1 ends by RST_STREAM with REFUSED_STREAM: it waits for its follower. The next action is AttemptMade of row 2, again of number 1, and then
-- none waits. Row 2 ends in the same way: nothing follows it, so it does not wait.
use Rattle.std.specs.List.{list_any}
use Rattle.std.specs.Prelude.{Bool, Some, false, true, ℕ, ◌&&◌, ◌≡◌}
use Rattle.call_actions.specs.Order.{IsInOrder, IsInTurn}
use Rattle.session_actions.specs.Attempts.{is_of, wants_follower}
use Rattle.session_actions.specs.Words.{numbered}
use Rattle.session_actions.specs.declared.attempt.Attempt.{Attempt}
use Rattle.session_actions.specs.declared.call.Call.{Call}
use Rattle.session_actions.specs.declared.call.MarkKind.{MarkKind}
use Rattle.session_actions.specs.declared.call.MarkKind.TheVariants as mark
use Rattle.session_actions.specs.declared.seen.Seen.{Seen}

abbrev pub waits : Seen → Call → Attempt → Bool
waits s c a = is_of c a && wants_follower a s

pub record IsSteady (s : Seen) (c : Call) : Type 0 where
  pub turn : IsInTurn s c
  pub quiescent : list_any (waits s c) s.attempts ≡ false

-- after an action the call of a number is so still
pub record StaysSteady (t : Seen) (number : ℕ) : Type 0 where
  pub call : Call
  pub own : numbered t.calls number ≡ Some call
  pub steady : IsSteady t call

-- and it is in order too
pub record StaysInOrder (t : Seen) (number : ℕ) : Type 0 where
  pub call : Call
  pub own : numbered t.calls number ≡ Some call
  pub order : IsInOrder t call
  pub steady : IsSteady t call

-- a mark that names no attempt, and sets none
abbrev pub is_rowless : MarkKind → Bool
is_rowless (mark.Made row) = false
is_rowless (mark.Placed row) = false
is_rowless (mark.Ended row) = false
is_rowless _ = true
