use Rattle.std.proofs.Common.{sym}
use Rattle.channel_core.proofs.Lending.{fed_err, fed_left}
use Rattle.channel_core.proofs.state.slots.Slots.feed.Goals as goal

pub returns-in-Some-clause-left : goal.returns-in-Some-clause-left
returns-in-Some-clause-left c =
    fed_left c.args.row c.args.len c.args.number c.args.self.now c.in-Some.slot.now c.feed.new.self c.feed.result (sym c.in-Some.ensures.slot) c.feed.ensures.left

pub returns-in-Some-clause-err : goal.returns-in-Some-clause-err
returns-in-Some-clause-err c = fed_err c.args.number c.args.self.now c.in-Some.slot.now c.feed.new.self c.feed.result (sym c.in-Some.ensures.slot) c.feed.ensures.err
