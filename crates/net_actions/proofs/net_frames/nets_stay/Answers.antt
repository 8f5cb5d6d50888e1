use Rattle.net_actions.proofs.NetFrames.Left.{net_is_left, net_stays, net_stays_along, same_nets_agree}
use Rattle.net_actions.proofs.net_frames.nets_stay.Goals as goal

pub returns-clause-left : goal.returns-clause-left
returns-clause-left c = net_is_left

pub returns-clause-same : goal.returns-clause-same
returns-clause-same c = same_nets_agree

pub returns-clause-one : goal.returns-clause-one
returns-clause-one c = net_stays

pub returns-clause-along : goal.returns-clause-along
returns-clause-along c = net_stays_along
