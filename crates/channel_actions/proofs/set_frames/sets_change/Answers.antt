use Rattle.channel_actions.proofs.Links.Settings.Pairs.{exactly_by, exactly_insert, exactly_remove}
use Rattle.channel_actions.proofs.set_frames.sets_change.Goals as goal

pub returns-clause-comes : goal.returns-clause-comes
returns-clause-comes c = exactly_insert

pub returns-clause-goes : goal.returns-clause-goes
returns-clause-goes c = exactly_remove

pub returns-clause-same : goal.returns-clause-same
returns-clause-same c = exactly_by
