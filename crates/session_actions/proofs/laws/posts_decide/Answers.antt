use Rattle.session_actions.proofs.Deciding.{decided, session_decided}
use Rattle.session_actions.proofs.laws.posts_decide.Goals as goal

pub returns-clause-actions : goal.returns-clause-actions
returns-clause-actions c = decided

pub returns-clause-session : goal.returns-clause-session
returns-clause-session c = session_decided
