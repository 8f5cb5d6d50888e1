use Rattle.channel_actions.proofs.BoardActions.Boards.{boards_leave_rest}
use Rattle.channel_actions.proofs.board_actions.boards_leave_rest.Goals as goal

pub returns : goal.returns
returns c = boards_leave_rest
