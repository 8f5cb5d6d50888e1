use Rattle.channel_actions.proofs.Calls.Few.Tallies.{bytes_are_few, dials_are_few, links_are_few}
use Rattle.channel_actions.proofs.few_calls.links_are_few.Goals as goal

pub returns-clause-links : goal.returns-clause-links
returns-clause-links c = links_are_few

pub returns-clause-dials : goal.returns-clause-dials
returns-clause-dials c = dials_are_few

pub returns-clause-bytes : goal.returns-clause-bytes
returns-clause-bytes c = bytes_are_few
