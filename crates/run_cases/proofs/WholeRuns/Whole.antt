-- A run from its parts: the stages of an entry.
use Rattle.channel_actions.specs.Laws.{EveryRunIsASession, RunsAreSessions}
use Rattle.channel_actions.specs.Stages.{Deadlines}
use Rattle.run_cases.proofs.WholeRuns.Arrivals.{FrameLaws, arrivals_known}
use Rattle.run_cases.proofs.WholeRuns.Events.{EventLaws, events_answered}
use Rattle.run_cases.proofs.WholeRuns.Settled.{settlings_done}
use Rattle.attempt_cases.specs.MakingSteps.Laws.{LastIsWithheld}
use Rattle.attempt_cases.specs.ServeSteps.Follows.{FailsFollow, NetsMayAsk, PlacesFollow}
use Rattle.call_cases.specs.SettlingActions.Steps.{ClockSteps, NetSteps}
use Rattle.run_cases.specs.SettlingParts.Laws.{SettlingsStand}

pub every_run_is_a_session : EventLaws → FrameLaws → Deadlines → ClockSteps → NetSteps → PlacesFollow → SettlingsStand → NetsMayAsk → LastIsWithheld → FailsFollow → RunsAreSessions → EveryRunIsASession
every_run_is_a_session laws frames deadlines clocks nets places settlings asks withheld fails runs =
    runs (λ x o s h at case. deadlines x o s h at case.1)
    (λ x y r o s h at fresh timely case answers. events_answered laws (arrivals_known frames laws.ends) x y r o s h at fresh timely case.0 case.1 case.2 answers)
    (λ x o s h at fresh case. settlings_done laws.few clocks nets places settlings asks withheld fails x o s h at fresh case.1 case.2)
