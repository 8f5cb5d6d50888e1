use Rattle.channel_actions.proofs.Calls.Kept.Along.{unconfigured_have_no_attempts, early_along, early_begins, early_stays}
use Rattle.channel_actions.proofs.Calls.Kept.Fresh.{frames_are_fresh}
use Rattle.channel_actions.proofs.kept_calls.calls_are_kept.Goals as goal

pub returns-clause-begins : goal.returns-clause-begins
returns-clause-begins c = early_begins

pub returns-clause-stays : goal.returns-clause-stays
returns-clause-stays c = early_stays

pub returns-clause-along : goal.returns-clause-along
returns-clause-along c = early_along

pub returns-clause-awaiting_config : goal.returns-clause-awaiting_config
returns-clause-awaiting_config c = unconfigured_have_no_attempts

pub returns-clause-fresh : goal.returns-clause-fresh
returns-clause-fresh c = frames_are_fresh
