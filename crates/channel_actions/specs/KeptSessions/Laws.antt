-- What a session keeps in order (`IsKept`) holds of a new one, and after each action that is next; so it does after every list of actions.
-- Example: a call begins, gets its config, and its first attempt is made. It is asked for a pick, and placed on link 1 of a READY subchannel. That link came
-- up before, and the attempt has the place 1 and is of call 1.
use Rattle.std.specs.Prelude.{List}
use Rattle.channel_actions.specs.KeptSessions.Kept.{IsKept}
use Rattle.session_actions.specs.Actions.{after}
use Rattle.session_actions.specs.Sessions.{Does, IsNext, new_session}
use Rattle.session_actions.specs.declared.action.Action.{Action}
use Rattle.session_actions.specs.declared.seen.Seen.{Seen}
use Rattle.session_actions.specs.declared.seen.Setup.{Setup}

abbrev pub KeptBegins : Type 0
KeptBegins = (setup : Setup) → IsKept (new_session setup)

abbrev pub KeptStays : Type 0
KeptStays = (s : Seen) (a : Action) → IsKept s → IsNext a s → IsKept (after a s)

abbrev pub KeptAlong : Type 0
KeptAlong = (actions : List Action) (s t : Seen) → IsKept s → Does actions s t → IsKept t
