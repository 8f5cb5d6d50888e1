use Rattle.subchannel.specs.Boards.{is_live_at}
use Rattle.subchannel.proofs.NumberLaws.{find-board, only_live-at}
use Rattle.subchannel.proofs.board.Board.find.Goals as goal

pub returns : goal.returns
returns c =
    find-board (is_live_at c.args.address) c.deref.result.now c.self.inside.subs.items c.args.self.now c.deref-2.result.now c.self.inside.live.items _ (only_live-at c.args.address) c.self.invariant.numbers c.self.view_is c.deref.ensures.value c.deref-2.ensures.value c.first_of_address.ensures
