use Rattle.std.proofs.Common.{rules}
use Rattle.channel_core.proofs.Feeds.{may_drain}
use Rattle.channel_core.proofs.state.links.LinkSlot.drain.Goals as goal

pub returns-in-Ok-clause-drains : goal.returns-in-Ok-clause-drains
returns-in-Ok-clause-drains g c = record {
  may = may_drain c.args.room _ c.drain.result _ c.in-Ok.is c.drain.ensures.gone c.drain.ensures.small;
  sends = search rules;
  opened = search rules;
  readers = search rules;
  rest = search rules;
}
