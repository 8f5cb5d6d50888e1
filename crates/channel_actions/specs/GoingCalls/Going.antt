-- When the calls of a channel go on: none that runs stands still, and one that does not hedge makes one attempt at a time (gRFC A6, "Retry Policy" and
-- "Hedging Policy"). It is said of the channel alone, without a session.
-- Example: the attempt of call 1 has ended, and its retry is due at 3 s. Nothing of call 1 is queued or outstanding, and yet it goes on, as an attempt is due.
use Rattle.std.specs.List.{AllByRecursion}
use Rattle.std.specs.Prelude.{IfSome, List, Option, ℕ, ◌≤◌}
use Rattle.attempt_ledger.specs.Numbering.{most_attempts}
use Rattle.call_core.specs.Going.{IsGoing}
use Rattle.call_core.specs.Laws.{IsKept}
use Rattle.call_core.specs.declared.state.CallState.{CallState}
use Rattle.channel_core.specs.States.{StateSeen}
use Rattle.channel_core.specs.declared.state.slots.CallSlot.{CallSlot}
use Rattle.service_config.specs.Choice.{chosen_for}
use Rattle.service_config.specs.declared.config.Config.{Config}

pub record GoesOn (call : CallState) : Type 0 where
  -- a call that ended, is committed or has no config yet is so in all its parts
  pub kept : IsKept call
  pub going : IsGoing call

-- every method may make an attempt by the config that is held
abbrev pub AllowsAttempts : Option Config → Type 0
AllowsAttempts held = IfSome held (λ config. (path : List ℕ) → 1 ≤ most_attempts (chosen_for config path).plan)

pub record CallsGoOn (x : StateSeen) : Type 0 where
  pub calls : AllByRecursion (λ (slot : CallSlot). GoesOn slot.call) x.book.calls
  pub allows : AllowsAttempts x.held
