use Rattle.frame_cases.proofs.BrokenLinks.Received as handled
use Rattle.frame_cases.proofs.broken_links.broken_links_are_handled.Goals as goal

pub returns : goal.returns
returns c =
    handled.broken_links_are_handled c.buffers_stay_sound.ensures.each c.runs_rise.ensures.sessions c.ends_stay_held.ensures c.calls_of_channels_go_on.ensures.losses
