use Rattle.channel_actions.proofs.Calls.Few.Streams.{streams_are_of_attempts}
use Rattle.channel_actions.proofs.few_calls.streams_are_of_attempts.Goals as goal

pub returns : goal.returns
returns c = streams_are_of_attempts
