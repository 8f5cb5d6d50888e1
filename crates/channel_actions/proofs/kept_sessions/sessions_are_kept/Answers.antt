use Rattle.channel_actions.proofs.KeptSessions.Along.{kept_along, kept_begins, kept_stays}
use Rattle.channel_actions.proofs.kept_sessions.sessions_are_kept.Goals as goal

pub returns-clause-begins : goal.returns-clause-begins
returns-clause-begins c = kept_begins

pub returns-clause-stays : goal.returns-clause-stays
returns-clause-stays c = kept_stays

pub returns-clause-along : goal.returns-clause-along
returns-clause-along c = kept_along
