use Rattle.link_actions.proofs.SteadyLinks.Calls.{attempts_leave_links, call_ends_leave_links, commitments_leave_links}
use Rattle.link_actions.proofs.steady_links.calls_leave_links.Goals as goal

pub returns-clause-commitments : goal.returns-clause-commitments
returns-clause-commitments c = commitments_leave_links

pub returns-clause-ends : goal.returns-clause-ends
returns-clause-ends c = call_ends_leave_links

pub returns-clause-attempts : goal.returns-clause-attempts
returns-clause-attempts c = attempts_leave_links
