use Rattle.channel_actions.proofs.Links.Theirs.Kept.{theirs_along, theirs_begin, theirs_stay}
use Rattle.channel_actions.proofs.their_links.links_are_theirs.Goals as goal

pub returns-clause-begins : goal.returns-clause-begins
returns-clause-begins c = theirs_begin

pub returns-clause-stays : goal.returns-clause-stays
returns-clause-stays c = theirs_stay

pub returns-clause-along : goal.returns-clause-along
returns-clause-along c = theirs_along
