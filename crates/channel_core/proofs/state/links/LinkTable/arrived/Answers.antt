use Rattle.std.proofs.Common.{sym}
use Rattle.channel_core.proofs.Receiving.{arrival_put, received_put}
use Rattle.channel_core.proofs.state.links.LinkTable.arrived.Goals as goal

pub returns-in-Some-clause-arrival : goal.returns-in-Some-clause-arrival
returns-in-Some-clause-arrival c = arrival_put c.args.piece.now c.args.link c.args.self.now c.in-Some.slot.now c.arrived.result (sym c.in-Some.ensures.slot) c.arrived.ensures.arrival

pub returns-in-Some-clause-after : goal.returns-in-Some-clause-after
returns-in-Some-clause-after c = received_put c.args.piece.now c.args.link c.args.self.now c.in-Some.slot.now _ _ (sym c.in-Some.ensures.slot) c.arrived.ensures.after
