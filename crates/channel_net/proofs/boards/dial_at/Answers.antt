use Rattle.std.proofs.Common.{◌∙◌, sym}
use Rattle.subchannel.specs.Records.{dialed}
use Rattle.channel_net.proofs.BoardLaws.{has_number, changed_none}
use Rattle.channel_net.proofs.boards.dial_at.Goals as goal

pub dial_there-requires : goal.dial_there-requires
dial_there-requires c = has_number c.args.board.now c.args.sub (sym c.has.ensures ∙ c.if-has.true)

pub returns-else-has-clause-after : goal.returns-else-has-clause-after
returns-else-has-clause-after c = changed_none (dialed c.args.moment c.args.word) c.args.board.now c.args.sub (sym c.has.ensures ∙ c.if-has.false)
