use Rattle.event_cases.proofs.FewStreams.Asks.{nets_may_ask}
use Rattle.event_cases.proofs.few_streams.nets_may_ask.Goals as goal

pub returns : goal.returns
returns c = nets_may_ask c.asks_are_few.ensures
