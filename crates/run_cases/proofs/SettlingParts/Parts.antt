-- A settling from its parts.
use Rattle.attempt_cases.specs.MakingSteps.Laws.{MakesByCases, RoundsMake}
use Rattle.attempt_cases.specs.PassActions.Laws.{PassesAreServes, PassesAreShort}
use Rattle.attempt_cases.specs.PassActions.Serves.{PassesStop}
use Rattle.attempt_cases.specs.RoundSteps.Laws.{RoundsAreShort}
use Rattle.attempt_cases.specs.ServeSteps.Follows.{ServesByAnswers}
use Rattle.call_cases.specs.SettlingActions.Laws.{SettlingKeeps, SettlingsAreSteps}
use Rattle.call_cases.specs.SettlingActions.Steps.{ConfigSteps}
use Rattle.run_cases.specs.SettlingParts.Laws.{MakingStands, QueueStands, RoundsStand, SettlingsStand}

pub making_stands : RoundsMake → MakesByCases → MakingStands
making_stands rounds cases last = rounds (cases last)

pub queue_stands : PassesAreServes → PassesStop → PassesAreShort → ServesByAnswers → QueueStands
queue_stands passes stop short serves may places fails = passes (serves may places fails) stop (short (serves may places fails))

pub rounds_stand : SettlingKeeps → RoundsAreShort → MakingStands → QueueStands → ServesByAnswers → RoundsStand
rounds_stand keeps short making queue serves last may places fails = short keeps (making last) (queue may places fails) (serves may places fails)

pub settlings_stand : SettlingKeeps → SettlingsAreSteps → ConfigSteps → MakingStands → QueueStands → RoundsStand → SettlingsStand
settlings_stand keeps steps configs making queue rounds clock net last may places fails =
    steps keeps clock net configs (making last) (queue may places fails) (rounds last may places fails)
