use Rattle.subchannel.specs.Records.{is_dialable}
use Rattle.subchannel.proofs.NumberLaws.{find-board, only_live-dialable}
use Rattle.subchannel.proofs.board.Board.dialable.Goals as goal

pub returns : goal.returns
returns c =
    find-board is_dialable c.deref.result.now c.self.inside.subs.items c.args.self.now c.deref-2.result.now c.self.inside.live.items _ only_live-dialable c.self.invariant.numbers c.self.view_is c.deref.ensures.value c.deref-2.ensures.value c.first_dialable.ensures
