-- A settling is its steps, one after the other: where each of them keeps channel and session in agreement, the settling does, and the entry closes.
-- Example: a backoff is over, and a call waits without a config. The steps are BackoffEnds, then CallConfigured, then AttemptMade; no pick can be had yet, so
-- the attempt waits, and the entry closes.
use Rattle.channel_actions.specs.Stages.{SettlingsOf}
use Rattle.channel_core.specs.Steps.{unconfigured_served, clocked, net_settled}
use Rattle.channel_core.specs.Settling.{queue_served}
use Rattle.channel_core.specs.States.{StateSeen}
use Rattle.call_cases.specs.SettlingActions.Sound.{IsSound, SoundStays}
use Rattle.call_cases.specs.SettlingActions.Steps.{ClockSteps, ConfigSteps, MakingSteps, NetSteps, QueueSteps, RoundSteps, RoundsEnd, round_made_state}

-- what is kept by each part of a settling
abbrev pub queue_served_state : StateSeen → StateSeen
queue_served_state x = (queue_served x).state

pub record SettlingKeeps : Type 0 where
  pub clocks : SoundStays clocked
  pub nets : SoundStays net_settled
  pub configs : SoundStays unconfigured_served
  pub making : SoundStays round_made_state
  pub queue : SoundStays queue_served_state

-- a round is its two parts
abbrev pub RoundsAreSteps : Type 0
RoundsAreSteps = SettlingKeeps → MakingSteps → QueueSteps → RoundSteps

-- and a settling what comes before the rounds, and rounds until one does nothing
abbrev pub SettlingsAreSteps : Type 0
SettlingsAreSteps = SettlingKeeps → ClockSteps → NetSteps → ConfigSteps → MakingSteps → QueueSteps → RoundsEnd → SettlingsOf IsSound
