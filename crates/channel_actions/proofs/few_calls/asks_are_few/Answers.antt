use Rattle.channel_actions.proofs.Calls.Few.Asks.{asks_are_few}
use Rattle.channel_actions.proofs.few_calls.asks_are_few.Goals as goal

pub returns : goal.returns
returns c = asks_are_few c.laws_of_the_table.ensures.picks
