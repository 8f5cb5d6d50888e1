-- That a call is committed to one attempt, as an application sees it (gRFC A6, "When Retries are Valid" and "Transparent Retries").
-- Example: a call is committed to row 3, of the number 2, whose request never left the client. Row 4 is its transparent retry, of the number 2 too, and the
-- call is committed to it next. To the rows 1 and 2, of the number 1, it never is, and no attempt of the number 3 is made.
use Rattle.std.specs.Prelude.{List, None, Some, false, is_some, true, ℕ, ◌≡◌}
use Rattle.attempt_ledger.specs.Numbering.{is_transparent}
use Rattle.attempt_ledger.specs.declared.row.RowKind.{RowKind}
use Rattle.session_actions.specs.Attempts.{commitment}
use Rattle.session_actions.specs.Sessions.{Does, IsNext, new_session}
use Rattle.session_actions.specs.Words.{numbered}
use Rattle.session_actions.specs.declared.action.Action.{Action}
use Rattle.session_actions.specs.declared.attempt.Attempt.{Attempt}
use Rattle.session_actions.specs.declared.call.Call.{Call}
use Rattle.session_actions.specs.declared.seen.Seen.{Seen}
use Rattle.session_actions.specs.declared.seen.Setup.{Setup}
use Rattle.session_actions.specs.declared.action.Action.TheVariants as action

-- any two attempts of a call to which it was committed have one number
abbrev pub CommitsAreOne : Type 0
CommitsAreOne =
    (setup : Setup) (actions : List Action) (s : Seen) → Does actions (new_session setup) s
    → (i j : ℕ) (a b : Attempt) → numbered s.attempts i ≡ Some a → numbered s.attempts j ≡ Some b → a.row.call ≡ b.row.call
    → is_some a.row.committed ≡ true → is_some b.row.committed ≡ true → a.row.number ≡ b.row.number

-- no attempt but a transparent retry is made of a call that is committed
abbrev pub FreeCallsAttempt : Type 0
FreeCallsAttempt =
    (setup : Setup) (actions : List Action) (s : Seen) → Does actions (new_session setup) s
    → (call number due : ℕ) (kind : RowKind) → IsNext (action.AttemptMade call number kind due) s → is_transparent kind ≡ false
    → (c : Call) → numbered s.calls call ≡ Some c → commitment c s ≡ None
