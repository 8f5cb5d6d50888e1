-- That a channel stays shut ("gRPC Connectivity Semantics and API": SHUTDOWN).
-- Example: after Shutdown a result of the resolver comes, and a link is lost. The channel is as shut as before, and a Begin is refused.
use Rattle.std.specs.Prelude.{List, true, ◌≡◌}
use Rattle.session_actions.specs.Sessions.{Does}
use Rattle.session_actions.specs.declared.action.Action.{Action}
use Rattle.session_actions.specs.declared.seen.Seen.{Seen}

abbrev pub ShutChannelsStay : Type 0
ShutChannelsStay = (actions : List Action) (s t : Seen) → Does actions s t → s.shut ≡ true → t.shut ≡ true
