-- What the application of a call posts is answered in the channel as in the session, and both agree after it.
-- Example: a head came for call 1, and its application takes. The actions are ItemTaken with the head; the channel answers the head, and its inbox has none
-- any more; and nothing follows at once.
use Rattle.call_cases.specs.CallPosts.Cases.{IsFinish, IsPlainSend, IsTake}
use Rattle.channel_actions.specs.Stages.{EventsAnswered}

-- a Take: the next item, or NotYet where nothing has come, or a refusal once the end was taken
abbrev pub TakesAreAnswered : Type 0
TakesAreAnswered = EventsAnswered IsTake

-- a Finish: done, or a refusal once the call ended or was finished
abbrev pub FinishesAreAnswered : Type 0
FinishesAreAnswered = EventsAnswered IsFinish

-- a Send that neither ends its call nor commits it: accepted, or full, or a refusal once the call ended or was finished
abbrev pub SendsAreAnswered : Type 0
SendsAreAnswered = EventsAnswered IsPlainSend
