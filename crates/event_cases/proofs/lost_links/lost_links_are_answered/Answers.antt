use Rattle.event_cases.proofs.LostLinks.Answered.{lost_links_are_answered}
use Rattle.event_cases.proofs.lost_links.lost_links_are_answered.Goals as goal

pub returns : goal.returns
returns c = lost_links_are_answered c.calls_of_channels_go_on.ensures.losses c.ends_stay_held.ensures
