use Rattle.std.proofs.Common.{◌≡◌, ◌↔◌, ℕ, List, length, false, subst}
use Rattle.grpc_base.specs.declared.event.Event.TheVariants as event
use Rattle.grpc_base.specs.declared.event.Reply.TheVariants as reply
use Rattle.channel_core.specs.Core.{CoreSeen, WouldReply}
use Rattle.channel_core.proofs.LookLaws.{send_reported}
use Rattle.channel_core.proofs.channel.ChannelCore.can_send.Goals as goal

pub returns : goal.returns
returns g c =
    let P : CoreSeen → Type 0 = λ core. (message : List ℕ) → length message ≡ c.args.len → (c.can_send.result ≡ false) ↔ ((held : ℕ) × WouldReply core (event.Send c.args.call message) (reply.Full held)) in
    subst P c.self.view_is (send_reported c.can_send.result c.args.len c.args.call c.self.inside.state c.can_send.ensures)
