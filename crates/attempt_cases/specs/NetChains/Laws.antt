-- What the lines of policies give one after another is what a session does next.
-- Example: a result names round_robin, and pick_first is current. PolicyBegins, AddressesGiven and three SubchannelAdded follow one another.
use Rattle.std.specs.Prelude.{List, Some, ◌≡◌}
use Rattle.net_actions.specs.Runs.{DoesAll}
use Rattle.attempt_cases.specs.NetChains.Chains.{IsApartQuiescent, IsChained, IsPickThere}
use Rattle.session_actions.specs.declared.action.Action.{Action}
use Rattle.session_actions.specs.declared.entry.OpenEntry.{OpenEntry}
use Rattle.session_actions.specs.declared.seen.Seen.{Seen}

abbrev pub ChainsAreNext : Type 0
ChainsAreNext =
    (actions : List Action) (o : OpenEntry) (s t : Seen) → DoesAll actions o s t → s.current ≡ Some o → IsApartQuiescent o s → IsPickThere s → IsChained actions o s t
