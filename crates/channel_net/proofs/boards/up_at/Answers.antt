use Rattle.std.proofs.Common.{◌∙◌, sym}
use Rattle.subchannel.specs.Records.{linked_up}
use Rattle.channel_net.proofs.BoardLaws.{has_number, changed_none}
use Rattle.channel_net.proofs.boards.up_at.Goals as goal

pub up-answer-requires : goal.up-answer-requires
up-answer-requires c = has_number c.args.board.now c.args.sub (sym c.has.ensures ∙ c.if-has.true)

pub returns-else-has : goal.returns-else-has
returns-else-has c = changed_none linked_up c.args.board.now c.args.sub (sym c.has.ensures ∙ c.if-has.false)
