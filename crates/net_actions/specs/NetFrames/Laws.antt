-- An action that is not of the net leaves the net of a channel in agreement with the session; and so do several. It is stated once of all actions.
-- Example: a drain writes three frames. The net agreed before it, and agrees after it.
use Rattle.std.specs.List.{list_any}
use Rattle.std.specs.Prelude.{List, false, ◌≡◌}
use Rattle.channel_net.specs.Steps.{NetSeen}
use Rattle.net_actions.specs.Sees.{Sees}
use Rattle.net_actions.specs.NetFrames.Frames.{IsSameNet, is_of_net}
use Rattle.session_actions.specs.Actions.{after}
use Rattle.session_actions.specs.Sessions.{Does}
use Rattle.session_actions.specs.declared.action.Action.{Action}
use Rattle.session_actions.specs.declared.seen.Seen.{Seen}

-- actions that are not of the net change nothing of it
abbrev pub NetIsLeft : Type 0
NetIsLeft = (actions : List Action) (s t : Seen) → list_any is_of_net actions ≡ false → Does actions s t → IsSameNet s t

-- a net that agrees with one history agrees with another that has the same of it
abbrev pub SameNetsAgree : Type 0
SameNetsAgree = (s t : Seen) (n : NetSeen) → IsSameNet s t → Sees s n → Sees t n

-- so it stays through one action, and through several
abbrev pub NetStays : Type 0
NetStays = (s : Seen) (a : Action) (n : NetSeen) → is_of_net a ≡ false → Sees s n → Sees (after a s) n

abbrev pub NetStaysAlong : Type 0
NetStaysAlong = (actions : List Action) (s t : Seen) (n : NetSeen) → list_any is_of_net actions ≡ false → Does actions s t → Sees s n → Sees t n
