use Rattle.subchannel.proofs.NumberLaws.{next-board}
use Rattle.subchannel.proofs.board.Board.next.Goals as goal

pub returns : goal.returns
returns c =
    next-board c.deref.result.now c.self.inside.subs.items c.args.self.now c.deref-2.result.now c.self.inside.live.items _ c.self.invariant.numbers c.self.view_is c.deref.ensures.value c.deref-2.ensures.value c.next_of_live.ensures
