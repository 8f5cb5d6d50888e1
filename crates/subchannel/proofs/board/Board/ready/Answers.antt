use Rattle.std.proofs.Common.{◌-◌}
use Rattle.subchannel.specs.Records.{prefaced}
use Rattle.subchannel.proofs.NumberLaws.{set-numbered, set-place}
use Rattle.subchannel.proofs.KeepLaws.{IsBoard-changed}
use Rattle.subchannel.proofs.StepLaws.{keeps_live-prefaced}
use Rattle.subchannel.proofs.board.Board.ready.Goals as goal

pub invariant_of-self : goal.invariant_of-self
invariant_of-self c =
    IsBoard-changed prefaced c.self.inside.subs.items _ c.self.inside.live.items (c.args.sub - 1) keeps_live-prefaced c.self.invariant (set-place prefaced c.self.inside.subs.items c.args.self.now c.args.sub c.index_mut-chosen.result.now _ c.self.view_is c.requires c.index_mut-chosen.ensures.value c.ready.ensures)

pub returns : goal.returns
returns c = set-numbered prefaced c.self.inside.subs.items c.args.self.now c.args.sub c.index_mut-chosen.result.now _ c.self.view_is c.requires c.index_mut-chosen.ensures.value c.ready.ensures
