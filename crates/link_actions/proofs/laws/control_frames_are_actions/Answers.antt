use Rattle.link_actions.proofs.Owed.{controls_are_same, none_is_owed}
use Rattle.link_actions.proofs.laws.control_frames_are_actions.Goals as goal

pub returns-clause-next : goal.returns-clause-next
returns-clause-next c = controls_are_same

pub returns-clause-none : goal.returns-clause-none
returns-clause-none c = none_is_owed
