-- When the calls of a channel are sound: what the steps of a settling ask of the channel alone. It holds of a new channel, and each step keeps it.
-- Example: a call has one attempt, in row 2 of three: what it holds of its messages has a place for row 2 alone. By its config it may have 3 attempts, so 2 of it are
-- still to come.
use Rattle.std.specs.List.{list_all}
use Rattle.std.specs.Prelude.{IfSome, List, Option, Some, [], length, nat_le, true, ℕ, ◌+◌, ◌-◌, ◌∷◌, ◌≡◌, ◌≤◌}
use Rattle.attempt_ledger.specs.Numbering.{most_attempts}
use Rattle.call_core.specs.Going as call
use Rattle.call_core.specs.Laws as laws
use Rattle.call_core.specs.Steps.{call_plan}
use Rattle.channel_core.specs.Books.{slot_at}
use Rattle.channel_core.specs.States.{StateSeen}
use Rattle.channel_core.specs.declared.state.slots.CallSlot.{CallSlot}
use Rattle.grpc_base.specs.declared.plan.CallPlan.{CallPlan}
use Rattle.service_config.specs.Choice.{chosen_for}
use Rattle.service_config.specs.declared.config.Config.{Config}

-- of the channel alone, and of one call. One that ended, is committed or has no config yet is so in all its parts; one that runs does not stand still, and makes
-- one attempt at a time where it does not hedge (`IsGoing`)
pub record IsSoundSlot (rows : ℕ) (slot : CallSlot) : Type 0 where
  pub kept : laws.IsKept slot.call
  pub going : call.IsGoing slot.call
  -- its attempts, and what it holds for attempts, are of rows that are there
  pub live : list_all (λ r. nat_le r.place rows) slot.call.live ≡ true
  pub held : list_all (λ c. nat_le c.row rows) slot.call.buffer.cursors ≡ true
  -- a plan allows 5 attempts at most, and no more than it allows are made (gRFC A6, "Maximum Number of Retries")
  pub range : most_attempts (call_plan slot.call) ≤ 5
  pub sent : slot.call.attempts.sent ≤ most_attempts (call_plan slot.call)

-- the plans of the config that is held
pub record IsPlanned (plan : CallPlan) : Type 0 where
  pub least : 1 ≤ most_attempts plan
  pub most : most_attempts plan ≤ 5

abbrev pub AllowsPlans : Option Config → Type 0
AllowsPlans held = IfSome held (λ config. (path : List ℕ) → IsPlanned (chosen_for config path).plan)

-- how many attempts calls may still make, beside transparent retries
abbrev pub to_come : List CallSlot → ℕ
to_come [] = 0
to_come (slot ∷ slots) = (5 - slot.call.attempts.sent) + to_come slots

-- the attempts that were made, and those that are still to come
abbrev pub all_attempts : StateSeen → ℕ
all_attempts x = length x.book.ledger.rows + to_come x.book.calls

-- its calls, and the config that calls get
pub record CallsAreSound (x : StateSeen) : Type 0 where
  pub slots : (number : ℕ) (slot : CallSlot) → slot_at x.book number ≡ Some slot → IsSoundSlot (length x.book.ledger.rows) slot
  pub plans : AllowsPlans x.held
