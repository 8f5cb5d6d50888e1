use Rattle.std.proofs.Common.{◌≡◌, ℕ, List, [], false, subst}
use Rattle.grpc_base.specs.declared.event.Event.TheVariants as event
use Rattle.grpc_base.specs.declared.event.Reply.TheVariants as reply
use Rattle.channel_core.specs.Core.{CoreSeen, WouldReply}
use Rattle.channel_core.proofs.LookLaws.{drain_reported}
use Rattle.channel_core.proofs.channel.ChannelCore.can_drain.Goals as goal

pub returns-clause-nothing : goal.returns-clause-nothing
returns-clause-nothing g c =
    let P : CoreSeen → Type 0 = λ core. c.can_drain.result ≡ false → (room : ℕ) (octets : List ℕ) → WouldReply core (event.Drain c.args.link room) (reply.Octets octets) → octets ≡ [] in
    subst P c.self.view_is (drain_reported c.can_drain.result c.args.link c.self.inside.state c.can_drain.ensures)
