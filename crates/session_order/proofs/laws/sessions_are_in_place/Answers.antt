use Rattle.session_order.proofs.Places.{actions_keep_places, sessions_are_in_place}
use Rattle.session_order.proofs.laws.sessions_are_in_place.Goals as goal

pub returns-clause-kept : goal.returns-clause-kept
returns-clause-kept c = actions_keep_places

pub returns-clause-sessions : goal.returns-clause-sessions
returns-clause-sessions c = sessions_are_in_place
