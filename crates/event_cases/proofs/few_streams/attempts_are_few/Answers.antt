use Rattle.event_cases.proofs.FewStreams.Known.{attempts_are_few}
use Rattle.event_cases.proofs.few_streams.attempts_are_few.Goals as goal

pub returns : goal.returns
returns c = attempts_are_few c.attempts_are_bounded.ensures.attempts c.held_plans_are_short.ensures
