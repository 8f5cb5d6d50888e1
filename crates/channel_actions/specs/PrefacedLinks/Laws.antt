-- That attempts are only on links on which SETTINGS came holds of a new session, and after each action that is next; so it does after every list of actions. Links
-- are then joined to subchannels and attempts as the clock of subchannels asks.
-- Example: LinkUp of subchannel 1, its SETTINGS arrive, a pick is requested for attempt 1, and attempt 1 is placed on link 1.
use Rattle.std.specs.Prelude.{List}
use Rattle.channel_actions.specs.KeptSessions.Kept.{IsKept}
use Rattle.channel_actions.specs.OwnLinks.Own.{LinksAreOwn}
use Rattle.channel_actions.specs.PrefacedLinks.Prefaced.{LinksArePrefaced}
use Rattle.channel_actions.specs.PrefacedLinks.Joined.{PrefacedLinksAreJoined}
use Rattle.session_actions.specs.Actions.{after}
use Rattle.session_actions.specs.Sessions.{Does, IsNext, new_session}
use Rattle.session_actions.specs.declared.action.Action.{Action}
use Rattle.session_actions.specs.declared.seen.Seen.{Seen}
use Rattle.session_actions.specs.declared.seen.Setup.{Setup}

abbrev pub PrefacedBegins : Type 0
PrefacedBegins = (setup : Setup) → LinksArePrefaced (new_session setup)

abbrev pub PrefacedStays : Type 0
PrefacedStays = (s : Seen) (a : Action) → IsKept s → LinksArePrefaced s → IsNext a s → LinksArePrefaced (after a s)

abbrev pub PrefacedAlong : Type 0
PrefacedAlong = (actions : List Action) (s t : Seen) → IsKept s → LinksArePrefaced s → Does actions s t → LinksArePrefaced t

abbrev pub LinksAreJoined : Type 0
LinksAreJoined = (s : Seen) → LinksAreOwn s → LinksArePrefaced s → PrefacedLinksAreJoined s
