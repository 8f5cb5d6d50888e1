-- That the calls of a channel are sound (`CallsAreSound`) holds of a new channel, and is kept by each step and by each of its parts. It is of the channel alone.
-- Example: a result of the resolver brings a config whose retryPolicy has maxAttempts 9. It counts as 5 (gRFC A6, "Maximum Number of Retries"), and so each call
-- that gets this config has a plan of at most 5 attempts.
use Rattle.std.specs.Global.{Global}
use Rattle.std.specs.Prelude.{List, Option, ℕ}
use Rattle.channel_actions.specs.SoundCalls.Sound.{CallsAreSound}
use Rattle.channel_core.specs.Applying.{AnswersBy, Stepped, new_state}
use Rattle.channel_core.specs.Settling.{settled}
use Rattle.channel_core.specs.States.{StateSeen}
use Rattle.channel_core.specs.Steps.{overdue_ended}
use Rattle.grpc_base.specs.declared.event.Event.{Event}
use Rattle.grpc_base.specs.declared.event.Refusal.{Refusal}
use Rattle.grpc_base.specs.declared.event.Reply.{Reply}
use Rattle.lb_policy.specs.Table.{PolicySeen}

abbrev pub NewCallsAreSound : Type 0
NewCallsAreSound = (alloc : Global) (authority : List ℕ) (policies : List PolicySeen) → CallsAreSound (new_state alloc authority policies)

abbrev pub StepsKeepCalls : Type 0
StepsKeepCalls =
    (entry moment word : ℕ) (e : Event) (old new : StateSeen) (r : Reply) → Stepped entry moment word e old new r → CallsAreSound old → CallsAreSound new

abbrev pub DeadlinesKeepCalls : Type 0
DeadlinesKeepCalls = (x : StateSeen) → CallsAreSound x → CallsAreSound (overdue_ended x)

abbrev pub AnswersKeepCalls : Type 0
AnswersKeepCalls = (refused : Option Refusal) (e : Event) (x y : StateSeen) (r : Reply) → AnswersBy refused e x y r → CallsAreSound x → CallsAreSound y

abbrev pub SettlingsKeepCalls : Type 0
SettlingsKeepCalls = (x : StateSeen) → CallsAreSound x → CallsAreSound (settled x)
