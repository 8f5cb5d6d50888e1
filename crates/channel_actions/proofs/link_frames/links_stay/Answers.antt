use Rattle.channel_actions.proofs.Links.Frames.Frame as frame
use Rattle.channel_actions.proofs.link_frames.links_stay.Goals as goal

pub returns-clause-others : goal.returns-clause-others
returns-clause-others c = frame.others_agree

pub returns-clause-all : goal.returns-clause-all
returns-clause-all c = frame.links_stay
