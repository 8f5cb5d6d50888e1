use Rattle.link_actions.proofs.Judged.{frames_are_judged}
use Rattle.link_actions.proofs.QuietKept.{quiet_frames_keep}
use Rattle.link_actions.proofs.Reading.{new_ones_agree, reads_are_same}
use Rattle.link_actions.proofs.laws.reading_is_actions.Goals as goal

pub returns-clause-new : goal.returns-clause-new
returns-clause-new c = new_ones_agree

pub returns-clause-judged : goal.returns-clause-judged
returns-clause-judged c = frames_are_judged

pub returns-clause-read : goal.returns-clause-read
returns-clause-read c = reads_are_same

pub returns-clause-quiet : goal.returns-clause-quiet
returns-clause-quiet c = quiet_frames_keep
