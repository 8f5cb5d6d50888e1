use Rattle.channel_actions.proofs.Links.Frames.Differences as differences
use Rattle.channel_actions.proofs.Links.Frames.NoDifference as no_difference
use Rattle.channel_actions.proofs.link_frames.actions_make_no_difference.Goals as goal

pub returns-clause-nothing : goal.returns-clause-nothing
returns-clause-nothing c = differences.no_difference

pub returns-clause-joins : goal.returns-clause-joins
returns-clause-joins c = differences.differences_join

pub returns-clause-fewer : goal.returns-clause-fewer
returns-clause-fewer c = differences.fewer_see_none

pub returns-clause-action : goal.returns-clause-action
returns-clause-action c = no_difference.actions_make_no_difference

pub returns-clause-list : goal.returns-clause-list
returns-clause-list c = no_difference.lists_make_no_difference
