-- A settling from its parts: what is proved of them, put together, and what is left of them as premises, each by its name.
-- Example: where the clock and the net of a settling keep channel and session in agreement, so does all of it. Left out are what follows an answer to a pick
-- request, and a hedge that is withheld when no other attempt of its call goes on.
use Rattle.channel_actions.specs.Stages.{SettlingsOf}
use Rattle.attempt_cases.specs.MakingSteps.Laws.{LastIsWithheld}
use Rattle.attempt_cases.specs.ServeSteps.Follows.{FailsFollow, NetsMayAsk, PlacesFollow}
use Rattle.call_cases.specs.SettlingActions.Sound.{IsSound}
use Rattle.call_cases.specs.SettlingActions.Steps.{ClockSteps, MakingSteps, NetSteps, QueueSteps, RoundsEnd}

-- the attempts of a round
abbrev pub MakingStands : Type 0
MakingStands = LastIsWithheld → MakingSteps

-- its pass over the queue
abbrev pub QueueStands : Type 0
QueueStands = NetsMayAsk → PlacesFollow → FailsFollow → QueueSteps

-- the rounds end
abbrev pub RoundsStand : Type 0
RoundsStand = LastIsWithheld → NetsMayAsk → PlacesFollow → FailsFollow → RoundsEnd

-- the settling
abbrev pub SettlingsStand : Type 0
SettlingsStand = ClockSteps → NetSteps → LastIsWithheld → NetsMayAsk → PlacesFollow → FailsFollow → SettlingsOf IsSound
