use Rattle.channel_core.proofs.Readdressing.{readdressed_at}
use Rattle.channel_core.proofs.state.State.readdress_to.Goals as goal

pub returns : goal.returns
returns g c =
    readdressed_at c.self.view_is c.args.kind c.args.addresses.now c.resolved.new.self c.resolved.new.generations c.in_ok-shut.shut c.stamp_all_gone.new.self
    c.in_ok-shut.ensures.after c.in_ok-shut.ensures.stamps c.in_ok-shut.ensures.shut c.stamp_all_gone.ensures
