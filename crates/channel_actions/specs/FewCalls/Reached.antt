-- A session that began new, and went on by its actions: it keeps whatever every list of actions keeps.
-- Example: a new session, and one after LinkUp, its SETTINGS and a Tick, also while the entry of the Tick is being made.
use Rattle.std.specs.Prelude.{List}
use Rattle.session_actions.specs.Sessions.{Does, new_session}
use Rattle.session_actions.specs.declared.action.Action.{Action}
use Rattle.session_actions.specs.declared.seen.Seen.{Seen}
use Rattle.session_actions.specs.declared.seen.Setup.{Setup}

pub record IsReached (s : Seen) : Type 0 where
  pub setup : Setup
  pub actions : List Action
  pub does : Does actions (new_session setup) s
