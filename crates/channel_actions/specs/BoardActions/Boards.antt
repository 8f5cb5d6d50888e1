-- The actions of subchannels and policies, and what they may change of a session.
-- Example: a dial fails. Its subchannel is in TRANSIENT_FAILURE, the policies note it, a resolution is wanted, and the entry is answered. Calls, attempts and
-- configs are as they were.
use Rattle.std.specs.Prelude.{Bool, List, [], false, true, ◌∷◌, ◌≡◌}
use Rattle.session_actions.specs.declared.action.Action.{Action}
use Rattle.session_actions.specs.declared.action.Action.TheVariants as action
use Rattle.session_actions.specs.declared.seen.Seen.{Seen}

abbrev pub is_of_board : Action → Bool
is_of_board (action.PolicyBegins k) = true
is_of_board (action.AddressesGiven generation) = true
is_of_board (action.PolicyTakesOver generation) = true
is_of_board (action.PolicyRetired generation) = true
is_of_board (action.SubchannelAdded address) = true
is_of_board (action.SubchannelShut sub) = true
is_of_board (action.SubchannelConnects sub) = true
is_of_board (action.DialTaken sub again until) = true
is_of_board (action.DialFails sub) = true
is_of_board (action.ConnectTimesOut sub) = true
is_of_board (action.BackoffEnds sub) = true
is_of_board (action.LinkUp sub) = true
is_of_board (action.SettingsArrive sub) = true
is_of_board (action.LinkDown sub) = true
is_of_board _ = false

abbrev pub ActionsAreOfBoard : List Action → Type 0
ActionsAreOfBoard [] = Unit {0}
ActionsAreOfBoard (a ∷ actions) = (is_of_board a ≡ true) × ActionsAreOfBoard actions

-- of the one history all but the open entry, policies, subchannels, links and the wish for a resolution, and these of the other
abbrev pub boarded : Seen → Seen → Seen
boarded s t = record s { current = t.current; policies = t.policies; subs = t.subs; links = t.links; wants = t.wants }

-- nothing else changed
abbrev pub IsBoarded : Seen → Seen → Type 0
IsBoarded s t = t ≡ boarded s t
