-- In a settling whose clock is done a pending policy takes over, where it may, and then wished subchannels connect, until neither is left: this is one step of it.
-- Example: generation 2 is pending and READY, and alone lists subchannel 2; generation 1 alone lists subchannel 1. PolicyTakesOver 2, SubchannelShut 1; and of a
-- further subchannel that generation 2 wishes, SubchannelConnects.
use Rattle.channel_actions.specs.Agrees.{Agrees}
use Rattle.channel_actions.specs.Quiescent.{IsAt}
use Rattle.channel_actions.specs.TheirLinks.Theirs.{LinksAreTheirs}
use Rattle.event_cases.specs.LeftLinks.Laws.{LeftLinksAreStamped}
use Rattle.attempt_cases.specs.NetChains.Chains.{IsPickThere}
use Rattle.channel_actions.specs.PrefacedLinks.Joined.{PrefacedLinksAreJoined}
use Rattle.attempt_cases.specs.NetSettlings.Points.{IsClocked, IsJoined, Leads}
use Rattle.channel_core.specs.States.{StateSeen}
use Rattle.channel_core.specs.Steps.{net_settled}
use Rattle.session_actions.specs.declared.entry.OpenEntry.{OpenEntry}
use Rattle.session_actions.specs.declared.entry.Stage.TheVariants as stage
use Rattle.session_actions.specs.declared.seen.Seen.{Seen}

-- (of the session alone: links are joined to subchannels and attempts, an open link is its subchannel's own, and the last pick request was answered with a
-- subchannel that was made)
abbrev pub NetsAreSettled : Type 0
NetsAreSettled =
    LeftLinksAreStamped → (x : StateSeen) (o : OpenEntry) (s : Seen) → Agrees x s → PrefacedLinksAreJoined s → LinksAreTheirs s → IsPickThere s → IsAt stage.Settling o s → IsClocked o s
    → Leads (net_settled x) o s IsJoined
