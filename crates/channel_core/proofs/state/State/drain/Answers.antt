use Rattle.std.proofs.Common.{refl}
use Rattle.channel_core.proofs.DrainLaws.{drains_none}
use Rattle.channel_core.proofs.state.State.drain.Goals as goal

pub returns-in-None : goal.returns-in-None
returns-in-None g c =
    drains_none c.args.link c.args.room _ c.args.self.now _ c.in_ok-drained.field-0 c.drain.new.feed c.new.result c.self.view_is c.in-None.is c.in_ok-drained.ensures.same
    c.in_ok-drained.ensures.drains c.new.ensures refl
