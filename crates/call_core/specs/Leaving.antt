-- What sending and taking leave of a call.
use Rattle.std.specs.Prelude.{◌≡◌}
use Rattle.call_core.specs.declared.state.CallState.{CallState}

-- its number, configuration, rows, attempts and end: all that the laws over rows speak of
pub record IsSameCall (old new : CallState) : Type 0 where
  pub number : new.number ≡ old.number
  pub begun : new.begun ≡ old.begun
  pub chosen : new.chosen ≡ old.chosen
  pub live : new.live ≡ old.live
  pub attempts : new.attempts ≡ old.attempts
  pub ended : new.ended ≡ old.ended
