-- How many attempts a call has, and how they are numbered (gRFC A6, "Maximum Number of Retries", "Retry Policy", "Hedging Policy" and "Transparent
-- Retries"). A session is any list of actions from a new one, each of which is the one that follows; between two entries or not.
-- Example: maxAttempts is 3. Attempt 1 of a call never left the client: row 2 has the number 1 too. It fails, then row 3, attempt 2, and row 4, attempt
-- 3, fail. No fifth row is made: 3 were made, the transparent retry apart.
use Rattle.std.specs.Prelude.{Bool, List, None, Some, count_by, false, not, take, true, ℕ, ◌&&◌, ◌<◌, ◌==◌, ◌≡◌, ◌≤◌}
use Rattle.attempt_ledger.specs.Numbering.{is_transparent, most_attempts}
use Rattle.session_actions.specs.Configs.{plan_of}
use Rattle.session_actions.specs.DueAttempts.{attempts_made}
use Rattle.session_actions.specs.Sessions.{Does, new_session}
use Rattle.session_actions.specs.Words.{numbered}
use Rattle.session_actions.specs.declared.action.Action.{Action}
use Rattle.session_actions.specs.declared.attempt.Attempt.{Attempt}
use Rattle.session_actions.specs.declared.call.Call.{Call}
use Rattle.session_actions.specs.declared.seen.Seen.{Seen}
use Rattle.session_actions.specs.declared.seen.Setup.{Setup}

-- of each call no more attempts were made than its plan allows: maxAttempts, or 1 without a policy
abbrev pub AttemptsAreCapped : Type 0
AttemptsAreCapped =
    (setup : Setup) (actions : List Action) (s : Seen) → Does actions (new_session setup) s
    → (k : ℕ) (c : Call) → numbered s.calls k ≡ Some c → attempts_made c s ≤ most_attempts (plan_of c s)

-- and none before it has a configuration
abbrev pub AttemptsNeedConfigs : Type 0
AttemptsNeedConfigs =
    (setup : Setup) (actions : List Action) (s : Seen) → Does actions (new_session setup) s
    → (k : ℕ) (c : Call) → numbered s.calls k ≡ Some c → c.config ≡ None → attempts_made c s ≡ 0

-- a further attempt of a call: no transparent retry
abbrev pub is_further_of : ℕ → Attempt → Bool
is_further_of call a = (a.row.call == call) && not (is_transparent a.row.kind)

-- it has the number of how many were made of its call up to it
abbrev pub IsCounted : Seen → Type 0
IsCounted s =
    (place : ℕ) (a : Attempt) → numbered s.attempts place ≡ Some a → is_transparent a.row.kind ≡ false
    → a.row.number ≡ count_by (is_further_of a.row.call) (take place s.attempts)

-- a transparent retry has that of an attempt of its call which was made before it
abbrev pub RetriesRepeat : Seen → Type 0
RetriesRepeat s =
    (place : ℕ) (a : Attempt) → numbered s.attempts place ≡ Some a → is_transparent a.row.kind ≡ true
    → (before : ℕ) × (q : Attempt) × (numbered s.attempts before ≡ Some q) × (before < place) × (q.row.call ≡ a.row.call) × (q.row.number ≡ a.row.number)

abbrev pub AttemptsAreNumbered : Type 0
AttemptsAreNumbered =
    (setup : Setup) (actions : List Action) (s : Seen) → Does actions (new_session setup) s → IsCounted s × RetriesRepeat s
