use Rattle.std.proofs.Common.{◌-◌}
use Rattle.subchannel.specs.Records.{wished}
use Rattle.subchannel.proofs.NumberLaws.{set-numbered, set-place}
use Rattle.subchannel.proofs.KeepLaws.{IsBoard-changed}
use Rattle.subchannel.proofs.StepLaws.{keeps_live-wished}
use Rattle.subchannel.proofs.board.Board.wished.Goals as goal

pub invariant_of-self : goal.invariant_of-self
invariant_of-self c =
    IsBoard-changed wished c.self.inside.subs.items _ c.self.inside.live.items (c.args.sub - 1) keeps_live-wished c.self.invariant (set-place wished c.self.inside.subs.items c.args.self.now c.args.sub c.index_mut-chosen.result.now _ c.self.view_is c.requires c.index_mut-chosen.ensures.value c.wished.ensures)

pub returns : goal.returns
returns c = set-numbered wished c.self.inside.subs.items c.args.self.now c.args.sub c.index_mut-chosen.result.now _ c.self.view_is c.requires c.index_mut-chosen.ensures.value c.wished.ensures
