use Rattle.channel_actions.proofs.Links.Own.Owned.{own_along, own_begins, own_stays}
use Rattle.channel_actions.proofs.own_links.links_are_own.Goals as goal

pub returns-clause-begins : goal.returns-clause-begins
returns-clause-begins c = own_begins

pub returns-clause-stays : goal.returns-clause-stays
returns-clause-stays c = own_stays

pub returns-clause-along : goal.returns-clause-along
returns-clause-along c = own_along c.sessions_are_kept.ensures.along
