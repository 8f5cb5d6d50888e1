-- Which actions are of the net: of subchannels, policies and pick requests. Any other leaves all that a net looks at.
-- Example: subchannel 1 is READY, and policy 1 lists it. A message is accepted, HEADERS are written, and attempt 1 ends: subchannel 1 is READY, and
-- policy 1 lists it.
use Rattle.std.specs.Prelude.{Bool, false, true, ◌≡◌}
use Rattle.session_actions.specs.declared.action.Action.{Action}
use Rattle.session_actions.specs.declared.action.Action.TheVariants as action
use Rattle.session_actions.specs.declared.seen.Seen.{Seen}

abbrev pub is_of_net : Action → Bool
is_of_net (action.PickRequested row generation answer) = true
is_of_net (action.PolicyBegins k) = true
is_of_net (action.AddressesGiven generation) = true
is_of_net (action.PolicyTakesOver generation) = true
is_of_net (action.PolicyRetired generation) = true
is_of_net (action.SubchannelAdded address) = true
is_of_net (action.SubchannelShut sub) = true
is_of_net (action.SubchannelConnects sub) = true
is_of_net (action.DialTaken sub again until) = true
is_of_net (action.DialFails sub) = true
is_of_net (action.ConnectTimesOut sub) = true
is_of_net (action.BackoffEnds sub) = true
is_of_net (action.LinkUp sub) = true
is_of_net (action.SettingsArrive sub) = true
is_of_net (action.LinkDown sub) = true
is_of_net _ = false

-- two histories have the same of all that a net looks at
pub record IsSameNet (s t : Seen) : Type 0 where
  pub setup : t.setup ≡ s.setup
  pub asks : t.asks ≡ s.asks
  pub policies : t.policies ≡ s.policies
  pub subs : t.subs ≡ s.subs
