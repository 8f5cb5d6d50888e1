-- A call that makes no further attempt (gRFC A6, "Hedging Policy", "Pushback" and "Throttling Retry Attempts and Hedged RPCs").
use Rattle.std.specs.Prelude.{◌≡◌, true, is_some}
use Rattle.call_core.specs.Steps.{Stepped}

-- it has its configuration, and hedging stopped, or it is committed or over
pub record IsStopped (s : Stepped) : Type 0 where
  pub configured : is_some s.call.chosen ≡ true
  pub stopped : s.call.attempts.stopped ≡ true
