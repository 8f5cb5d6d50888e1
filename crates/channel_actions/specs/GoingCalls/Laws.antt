-- The calls of a channel go on, whatever happens to it: those of a new one do, and each step keeps it. So does each of a step's parts: that deadlines end
-- calls, that the event is answered, that the channel settles.
-- Example: a call is cancelled. It ended, so it need not go on; the others go on as before.
use Rattle.std.specs.Global.{Global}
use Rattle.std.specs.Prelude.{Bool, List, Option, Some, ℕ, ◌≡◌}
use Rattle.channel_core.specs.Applying.{AnswersBy, Stepped, new_state}
use Rattle.channel_core.specs.Arrivals.{lost_row}
use Rattle.channel_core.specs.Books.{slot_at}
use Rattle.channel_core.specs.Settling.{settled}
use Rattle.channel_core.specs.States.{StateSeen}
use Rattle.channel_core.specs.Steps.{overdue_ended}
use Rattle.channel_core.specs.declared.state.slots.CallSlot.{CallSlot}
use Rattle.channel_actions.specs.GoingCalls.Going.{CallsGoOn, GoesOn}
use Rattle.grpc_base.specs.declared.event.Event.{Event}
use Rattle.grpc_base.specs.declared.event.Refusal.{Refusal}
use Rattle.grpc_base.specs.declared.event.Reply.{Reply}
use Rattle.lb_policy.specs.Table.{PolicySeen}

abbrev pub NewCallsGoOn : Type 0
NewCallsGoOn = (alloc : Global) (authority : List ℕ) (policies : List PolicySeen) → CallsGoOn (new_state alloc authority policies)

abbrev pub StepsGoOn : Type 0
StepsGoOn =
    (entry moment word : ℕ) (e : Event) (old new : StateSeen) (r : Reply) → Stepped entry moment word e old new r → CallsGoOn old → CallsGoOn new

abbrev pub DeadlinesGoOn : Type 0
DeadlinesGoOn = (x : StateSeen) → CallsGoOn x → CallsGoOn (overdue_ended x)

abbrev pub AnswersGoOn : Type 0
AnswersGoOn = (refused : Option Refusal) (e : Event) (x y : StateSeen) (r : Reply) → AnswersBy refused e x y r → CallsGoOn x → CallsGoOn y

abbrev pub SettlingsGoOn : Type 0
SettlingsGoOn = (x : StateSeen) → CallsGoOn x → CallsGoOn (settled x)

-- of the call of a number
abbrev pub EachGoesOn : Type 0
EachGoesOn = (x : StateSeen) (number : ℕ) (slot : CallSlot) → CallsGoOn x → slot_at x.book number ≡ Some slot → GoesOn slot.call

-- and so does the end of each attempt that is lost with its link
abbrev pub LossesGoOn : Type 0
LossesGoOn = (link row : ℕ) (each : Bool) (x : StateSeen) → CallsGoOn x → CallsGoOn (lost_row link each row x)
