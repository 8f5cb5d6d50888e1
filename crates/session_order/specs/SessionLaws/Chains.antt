-- To which attempts a call is committed (gRFC A6, "When Retries are Valid" and "Transparent Retries").
-- Example: a call is committed to attempt 2, as row 3, whose request never left the client. Row 4 is its transparent retry, of the number 2, and the call
-- is committed to it next: to row 1 or 2, of the number 1, it never is.
use Rattle.std.specs.Prelude.{List, Some, ℕ, ◌≡◌}
use Rattle.session_actions.specs.Attempts.{commitment}
use Rattle.session_actions.specs.Sessions.{Does, IsNext, new_session}
use Rattle.session_actions.specs.Words.{numbered}
use Rattle.session_actions.specs.declared.action.Action.{Action}
use Rattle.session_actions.specs.declared.action.CommitCause.{CommitCause}
use Rattle.session_actions.specs.declared.attempt.Attempt.{Attempt}
use Rattle.session_actions.specs.declared.call.Call.{Call}
use Rattle.session_actions.specs.declared.seen.Seen.{Seen}
use Rattle.session_actions.specs.declared.seen.Setup.{Setup}
use Rattle.session_actions.specs.declared.action.Action.TheVariants as action

-- a call is committed to an attempt where it is not committed yet, or to an attempt of the same number
abbrev pub CommitmentsChain : Type 0
CommitmentsChain =
    (setup : Setup) (actions : List Action) (s : Seen) → Does actions (new_session setup) s
    → (row : ℕ) (why : CommitCause) → IsNext (action.CallCommitted row why) s
    → (a : Attempt) × (numbered s.attempts row ≡ Some a)
    × ((c : Call) → numbered s.calls a.row.call ≡ Some c → (k : Attempt) → commitment c s ≡ Some k → k.row.number ≡ a.row.number)
