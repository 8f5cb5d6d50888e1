-- That the link of a subchannel is one of its own holds of a new session, and after each action; so it does after every list of actions.
-- Example: link 1 of subchannel 1 is lost, and subchannel 1 dials again: link 2 is of subchannel 1 too, and subchannel 1 has link 2.
use Rattle.std.specs.Prelude.{List}
use Rattle.channel_actions.specs.KeptSessions.Kept.{IsKept}
use Rattle.channel_actions.specs.OwnLinks.Own.{LinksAreOwn}
use Rattle.session_actions.specs.Actions.{after}
use Rattle.session_actions.specs.Sessions.{Does, new_session}
use Rattle.session_actions.specs.declared.action.Action.{Action}
use Rattle.session_actions.specs.declared.seen.Seen.{Seen}
use Rattle.session_actions.specs.declared.seen.Setup.{Setup}

abbrev pub OwnBegins : Type 0
OwnBegins = (setup : Setup) → LinksAreOwn (new_session setup)

abbrev pub OwnStays : Type 0
OwnStays = (s : Seen) (a : Action) → IsKept s → LinksAreOwn s → LinksAreOwn (after a s)

abbrev pub OwnAlong : Type 0
OwnAlong = (actions : List Action) (s t : Seen) → IsKept s → LinksAreOwn s → Does actions s t → LinksAreOwn t
