use Rattle.std.proofs.Common.{◌-◌}
use Rattle.subchannel.specs.Records.{dialed}
use Rattle.subchannel.proofs.NumberLaws.{set-numbered, set-place, numbered-read}
use Rattle.subchannel.proofs.KeepLaws.{IsBoard-changed}
use Rattle.subchannel.proofs.StepLaws.{keeps_live-dialed}
use Rattle.subchannel.proofs.board.Board.dial.Goals as goal

pub invariant_of-self : goal.invariant_of-self
invariant_of-self c =
    IsBoard-changed (dialed c.args.moment c.args.word) c.self.inside.subs.items _ c.self.inside.live.items (c.args.sub - 1) (keeps_live-dialed c.args.moment c.args.word) c.self.invariant (set-place (dialed c.args.moment c.args.word) c.self.inside.subs.items c.args.self.now c.args.sub c.index_mut-chosen.result.now _ c.self.view_is c.requires.number c.index_mut-chosen.ensures.value c.dial.ensures.after)

pub returns-clause-after : goal.returns-clause-after
returns-clause-after c = set-numbered (dialed c.args.moment c.args.word) c.self.inside.subs.items c.args.self.now c.args.sub c.index_mut-chosen.result.now _ c.self.view_is c.requires.number c.index_mut-chosen.ensures.value c.dial.ensures.after

pub returns-clause-until : goal.returns-clause-until
returns-clause-until c =
    rw (numbered-read c.self.inside.subs.items c.args.self.now c.args.sub c.index_mut-chosen.result.now c.self.view_is c.requires.number c.index_mut-chosen.ensures.value) c.dial.ensures.until

pub returns-clause-refused : goal.returns-clause-refused
returns-clause-refused c =
    rw (numbered-read c.self.inside.subs.items c.args.self.now c.args.sub c.index_mut-chosen.result.now c.self.view_is c.requires.number c.index_mut-chosen.ensures.value) c.dial.ensures.refused
