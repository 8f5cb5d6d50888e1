-- That a link which takes further streams is its subchannel's own holds of a new session, and after each action that is next; so it does after every list of actions.
-- Example: GOAWAY is read on link 1 of subchannel 1, and LinkDown of subchannel 1 follows: link 1 takes no further stream, and subchannel 1 has no link.
use Rattle.channel_actions.specs.PrefacedLinks.Prefaced.{LinksArePrefaced}
use Rattle.channel_actions.specs.KeptCalls.Early.{IsEarlyKept}
use Rattle.channel_actions.specs.KeptSessions.Kept.{IsKept}
use Rattle.channel_actions.specs.TheirLinks.Theirs.{LinksAreTheirs}
use Rattle.session_actions.specs.Actions.{after}
use Rattle.session_actions.specs.Sessions.{Does, IsNext, new_session}
use Rattle.session_actions.specs.declared.action.Action.{Action}
use Rattle.session_actions.specs.declared.seen.Seen.{Seen}
use Rattle.session_actions.specs.declared.seen.Setup.{Setup}
use Rattle.std.specs.Prelude.{List}

abbrev pub TheirsBegin : Type 0
TheirsBegin = (setup : Setup) → LinksAreTheirs (new_session setup)

abbrev pub TheirsStay : Type 0
TheirsStay = (s : Seen) (a : Action) → IsKept s → IsEarlyKept s → LinksArePrefaced s → LinksAreTheirs s → IsNext a s → LinksAreTheirs (after a s)

abbrev pub TheirsAlong : Type 0
TheirsAlong = (actions : List Action) (s t : Seen) → IsKept s → IsEarlyKept s → LinksArePrefaced s → LinksAreTheirs s → Does actions s t → LinksAreTheirs t
