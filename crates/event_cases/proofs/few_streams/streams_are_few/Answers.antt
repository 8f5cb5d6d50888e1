use Rattle.event_cases.proofs.FewStreams.Streams.{streams_are_few}
use Rattle.event_cases.proofs.few_streams.streams_are_few.Goals as goal

pub returns : goal.returns
returns c = streams_are_few c.attempts_are_bounded.ensures.streams c.held_plans_are_short.ensures
