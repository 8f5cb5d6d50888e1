-- Between the functions of this crate: what each worker of a relay did. The promises of the crate don't name these.
use Rattle.std.specs.Prelude.{◌≡◌, ℕ, Bool, true, false, List}
use Rattle.grpc_base.specs.Counts.{one_more}
use Rattle.live_channel.specs.Sharing.{IsOfCall}
use Rattle.live_pump.specs.Kinds.{AddsOnly}
use Rattle.live_pump.specs.Pumps.{HandleSeen}
use Rattle.live_run.specs.Outcomes.{outcome_of}
use Rattle.live_run.specs.declared.outcome.Outcome.{Outcome}
use Rattle.live_run.specs.declared.outcome.Outcome.TheVariants as outcome
use Rattle.relay_front.specs.declared.turned.RelayTurn.{RelayTurn}
use Rattle.relay_front.specs.declared.turned.RelayTurn.TheVariants as turn
use Rattle.relay_mode.specs.declared.link.RelayJob.{RelayJob}

-- how a worker ended whose link ended with this turn
abbrev pub outcome_of_turn : RelayTurn → Outcome
outcome_of_turn turn.Going = outcome.Whole
outcome_of_turn (turn.Broken code) = outcome.Whole
outcome_of_turn (turn.Gone refusal) = outcome.Whole
outcome_of_turn (turn.Failed e) = outcome_of e
outcome_of_turn turn.NoMemory = outcome.NoMemory

-- a worker that relayed a link posted nothing but what is of calls. Its handle has the share of the channel that it had
pub record LinkRelayed {H : Type 0} (seen : H → HandleSeen) (share : H → List ℕ) (before after : RelayJob H) : Type 0 where
  pub posts : AddsOnly IsOfCall (seen before.post).made (seen after.post).made
  pub same_share : share after.post ≡ share before.post

-- whether each link was accepted, and what that did to the listener's count of faults: no call failed, or one did
abbrev pub IsListening : Bool → ℕ → ℕ → Type 0
IsListening true faults faults' = faults' ≡ faults
IsListening false faults faults' = faults' ≡ one_more faults
