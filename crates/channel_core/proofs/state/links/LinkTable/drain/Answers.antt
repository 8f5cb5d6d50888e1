use Rattle.std.proofs.Common.{sym}
use Rattle.channel_core.proofs.Feeds.{drain_put, no_drain}
use Rattle.channel_core.proofs.state.links.LinkTable.drain.Goals as goal

pub returns-in-Some-clause-drains : goal.returns-in-Some-clause-drains
returns-in-Some-clause-drains g c = drain_put c.args.room c.args.self.now c.args.link _ _ c.in-Some.slot.now _ _ (sym c.in-Some.ensures.slot) c.drain.ensures.drains

pub returns-in-None-clause-drains : goal.returns-in-None-clause-drains
returns-in-None-clause-drains g c = no_drain c.args.room c.args.self.now c.args.link _ (sym c.in-None.ensures.slot)
