use Rattle.event_cases.proofs.FirstShutdowns.Stamped.{shuts_are_stamped}
use Rattle.event_cases.proofs.first_shutdowns.shuts_are_stamped.Goals as goal

pub returns : goal.returns
returns c = shuts_are_stamped
