use Rattle.end_cases.proofs.AttemptEnds.Rising.{runs_of_sessions, runs_stay}
use Rattle.end_cases.proofs.attempt_ends.runs_rise.Goals as goal

pub returns-clause-stay : goal.returns-clause-stay
returns-clause-stay c = runs_stay

pub returns-clause-sessions : goal.returns-clause-sessions
returns-clause-sessions c = runs_of_sessions
