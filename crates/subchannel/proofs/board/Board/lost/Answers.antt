use Rattle.std.proofs.Common.{◌-◌}
use Rattle.subchannel.specs.Records.{lost}
use Rattle.subchannel.proofs.NumberLaws.{set-numbered, set-place}
use Rattle.subchannel.proofs.KeepLaws.{IsBoard-changed}
use Rattle.subchannel.proofs.StepLaws.{keeps_live-lost}
use Rattle.subchannel.proofs.board.Board.lost.Goals as goal

pub invariant_of-self : goal.invariant_of-self
invariant_of-self c =
    IsBoard-changed lost c.self.inside.subs.items _ c.self.inside.live.items (c.args.sub - 1) keeps_live-lost c.self.invariant (set-place lost c.self.inside.subs.items c.args.self.now c.args.sub c.index_mut-chosen.result.now _ c.self.view_is c.requires c.index_mut-chosen.ensures.value c.lost.ensures)

pub returns : goal.returns
returns c = set-numbered lost c.self.inside.subs.items c.args.self.now c.args.sub c.index_mut-chosen.result.now _ c.self.view_is c.requires c.index_mut-chosen.ensures.value c.lost.ensures
