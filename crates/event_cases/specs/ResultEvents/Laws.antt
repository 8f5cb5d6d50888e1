-- Two kinds of events that leave the net as it is.
-- Example: a channel is shut down twice. The second Shutdown is answered with Done, and changes nothing.
use Rattle.channel_actions.specs.Stages.{EventsAnswered}
use Rattle.event_cases.specs.ResultEvents.Cases.{IsFirstBadConfig, IsSecondShutdown}

abbrev pub SecondShutdownsAreAnswered : Type 0
SecondShutdownsAreAnswered = EventsAnswered IsSecondShutdown

abbrev pub FirstBadConfigsAreAnswered : Type 0
FirstBadConfigsAreAnswered = EventsAnswered IsFirstBadConfig
