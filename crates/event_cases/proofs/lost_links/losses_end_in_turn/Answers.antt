use Rattle.event_cases.proofs.LostLinks.Walk.{losses_end_in_turn}
use Rattle.event_cases.proofs.lost_links.losses_end_in_turn.Goals as goal

pub returns : goal.returns
returns c = losses_end_in_turn c.calls_of_channels_go_on.ensures.losses c.ends_stay_held.ensures
