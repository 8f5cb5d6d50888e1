-- Actions of subchannels and policies leave all else.
-- Example: SubchannelShut 1 and SubchannelAdded follow a result of the resolver. The attempts of all calls are as they were.
use Rattle.std.specs.Prelude.{List}
use Rattle.channel_actions.specs.BoardActions.Boards.{ActionsAreOfBoard, IsBoarded}
use Rattle.session_actions.specs.Sessions.{Does}
use Rattle.session_actions.specs.declared.action.Action.{Action}
use Rattle.session_actions.specs.declared.seen.Seen.{Seen}

abbrev pub BoardsLeaveRest : Type 0
BoardsLeaveRest = (actions : List Action) (s t : Seen) → ActionsAreOfBoard actions → Does actions s t → IsBoarded s t
