use Rattle.std.proofs.Common.{◌∙◌, sym}
use Rattle.subchannel.specs.Records.{prefaced}
use Rattle.channel_net.proofs.BoardLaws.{has_number, changed_none}
use Rattle.channel_net.proofs.boards.ready_at.Goals as goal

pub ready-requires : goal.ready-requires
ready-requires c = has_number c.args.board.now c.args.sub (sym c.has.ensures ∙ c.if-has.true)

pub returns-else-has : goal.returns-else-has
returns-else-has c = changed_none prefaced c.args.board.now c.args.sub (sym c.has.ensures ∙ c.if-has.false)
