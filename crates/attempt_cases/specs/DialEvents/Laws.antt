-- What the environment reports of dials is answered alike by channel and session.
-- Example: subchannel 1 is CONNECTING, and TakeDial is answered with Dial 1. At 3 s DialFailed 1: subchannel 1 is in TRANSIENT_FAILURE, in both, and its
-- policies have noted it.
use Rattle.channel_actions.specs.Stages.{EventsAnswered}
use Rattle.attempt_cases.specs.DialEvents.Cases.{IsFailedDial, IsNewLink, IsTakenDial}

abbrev pub TakenDialsAreAnswered : Type 0
TakenDialsAreAnswered = EventsAnswered IsTakenDial

abbrev pub FailedDialsAreAnswered : Type 0
FailedDialsAreAnswered = EventsAnswered IsFailedDial

abbrev pub LinksUpAreAnswered : Type 0
LinksUpAreAnswered = EventsAnswered IsNewLink
