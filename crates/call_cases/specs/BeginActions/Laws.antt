-- A call that begins is answered with its number, and channel and session agree after it.
use Rattle.call_cases.specs.BeginActions.Begin.{IsBegin}
use Rattle.channel_actions.specs.Stages.{EventsAnswered}

abbrev pub BeginsAreAnswered : Type 0
BeginsAreAnswered = EventsAnswered IsBegin
