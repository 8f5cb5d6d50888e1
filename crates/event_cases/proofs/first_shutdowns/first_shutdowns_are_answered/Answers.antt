use Rattle.event_cases.proofs.FirstShutdowns.Answered.{first_shutdowns}
use Rattle.event_cases.proofs.first_shutdowns.first_shutdowns_are_answered.Goals as goal

pub returns : goal.returns
returns c = first_shutdowns c.chains_are_next.ensures c.links_are_theirs.ensures.along c.shuts_are_stamped.ensures
