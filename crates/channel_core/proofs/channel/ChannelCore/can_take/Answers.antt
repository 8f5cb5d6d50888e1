use Rattle.std.proofs.Common.{◌≡◌, ◌↔◌, false, subst}
use Rattle.grpc_base.specs.declared.event.Event.TheVariants as event
use Rattle.grpc_base.specs.declared.event.Reply.TheVariants as reply
use Rattle.channel_core.specs.Core.{CoreSeen, WouldReply}
use Rattle.channel_core.proofs.LookLaws.{take_reported}
use Rattle.channel_core.proofs.channel.ChannelCore.can_take.Goals as goal

pub returns : goal.returns
returns g c =
    let P : CoreSeen → Type 0 = λ core. (c.can_take.result ≡ false) ↔ WouldReply core (event.Take c.args.call) reply.NotYet in
    subst P c.self.view_is (take_reported c.can_take.result c.args.call c.self.inside.state c.can_take.ensures)
