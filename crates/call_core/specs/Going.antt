-- A call goes on until it ends: as long as it runs, a row of it is queued or outstanding, or an attempt is due at some moment. And a
-- call that doesn't hedge makes one attempt at a time (gRFC A6, "Retry Policy" and "Hedging Policy").
use Rattle.std.specs.Prelude.{◌≡◌, ◌≤◌, Bool, true, false, ◌⊎◌, None, is_some, [], ◌∷◌}
use Rattle.grpc_base.specs.declared.plan.CallPlan.{CallPlan}
use Rattle.grpc_base.specs.declared.plan.CallPlan.TheVariants as plans
use Rattle.attempt_ledger.specs.Numbering.{most_attempts}
use Rattle.call_core.specs.declared.live.LiveRow.{LiveRow}
use Rattle.call_core.specs.declared.state.CallState.{CallState}
use Rattle.call_core.specs.Parts.{has_none}
use Rattle.call_core.specs.Steps.{call_plan, next_due}

abbrev pub hedges : CallPlan → Bool
hedges (plans.Hedge policy) = true
hedges _ = false

-- the call has its configuration and hasn't ended
pub record IsRunning (call : CallState) : Type 0 where
  pub ended : call.ended ≡ None
  pub configured : is_some call.chosen ≡ true

-- a row is queued or outstanding, or an attempt is due at some moment
abbrev pub HasNext : CallState → Type 0
HasNext call = (has_none call.live ≡ false) ⊎ (is_some (next_due call) ≡ true)

-- the call's last attempt, or its transparent retry, is its one live row, and no further one is to come yet
pub record IsAlone (call : CallState) (row : LiveRow) : Type 0 where
  pub live : call.live ≡ row ∷ []
  pub number : row.number ≡ call.attempts.sent
  pub forced : call.attempts.forced ≡ None

abbrev pub HasAtMostOne : CallState → Type 0
HasAtMostOne call = (call.live ≡ []) ⊎ ((row : LiveRow) × IsAlone call row)

pub record IsGoing (call : CallState) : Type 0 where
  -- the law: no call that runs stands still
  pub next : IsRunning call → HasNext call
  -- the law: one attempt at a time, where the plan isn't to hedge
  pub alone : hedges (call_plan call) ≡ false → HasAtMostOne call
  -- what the call keeps for it: a plan allows an attempt; none is made before the configuration; a call that runs, doesn't hedge and
  -- isn't committed makes attempts. Once all rows of a call that runs have ended it knows the last end that counts; and no row is
  -- live before the first attempt
  pub most : 1 ≤ most_attempts (call_plan call)
  pub fresh : call.chosen ≡ None → call.attempts.sent ≡ 0
  pub goes : hedges (call_plan call) ≡ false → IsRunning call → call.attempts.committed ≡ None → call.attempts.stopped ≡ false
  pub last : IsRunning call → call.live ≡ [] → (call.attempts.sent ≡ 0) ⊎ (is_some call.attempts.last ≡ true)
  pub none : call.attempts.sent ≡ 0 → call.live ≡ []
