use Rattle.link_actions.proofs.SteadyLinks.Feeding.{entries_leave_links, finishes_feed, messages_feed, moments_feed}
use Rattle.link_actions.proofs.steady_links.calls_feed_links.Goals as goal

pub returns-clause-entries : goal.returns-clause-entries
returns-clause-entries c = entries_leave_links

pub returns-clause-messages : goal.returns-clause-messages
returns-clause-messages c = messages_feed

pub returns-clause-finishes : goal.returns-clause-finishes
returns-clause-finishes c = finishes_feed

pub returns-clause-moments : goal.returns-clause-moments
returns-clause-moments c = moments_feed
