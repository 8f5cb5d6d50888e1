use Rattle.event_cases.proofs.LeftLinks.Stamped.{left_links_are_stamped}
use Rattle.event_cases.proofs.left_links.left_links_are_stamped.Goals as goal

pub returns : goal.returns
returns c = left_links_are_stamped
