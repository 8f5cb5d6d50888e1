use Rattle.channel_actions.proofs.Links.Prefaced.Along.{prefaced_along, prefaced_begins, prefaced_stays}
use Rattle.channel_actions.proofs.prefaced_links.prefaced_links_stay.Goals as goal

pub returns-clause-begins : goal.returns-clause-begins
returns-clause-begins c = prefaced_begins

pub returns-clause-stays : goal.returns-clause-stays
returns-clause-stays c = prefaced_stays

pub returns-clause-along : goal.returns-clause-along
returns-clause-along c = prefaced_along
