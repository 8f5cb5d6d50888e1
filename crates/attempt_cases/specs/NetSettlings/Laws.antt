-- What is due of subchannels and policies in a settling is done alike by channel and session: two steps of it. `PrefacedLinksAreJoined` is
-- asked of the session.
-- Example: it is 20 s. The dial of subchannel 1, taken at 0 s, is up as link 1, without SETTINGS: ConnectTimesOut 1, and link 1 is over. The backoff of
-- subchannel 2 is over: BackoffEnds 2; and as its policy wishes it, SubchannelConnects 2.
use Rattle.channel_actions.specs.Agrees.{Agrees}
use Rattle.channel_actions.specs.Quiescent.{IsAt}
use Rattle.channel_core.specs.States.{StateSeen}
use Rattle.channel_core.specs.Steps.{clocked, net_settled}
use Rattle.channel_actions.specs.PrefacedLinks.Joined.{PrefacedLinksAreJoined}
use Rattle.attempt_cases.specs.NetSettlings.Points.{IsBegun, IsClocked, IsJoined, IsUncontested, Leads}
use Rattle.session_actions.specs.declared.entry.OpenEntry.{OpenEntry}
use Rattle.session_actions.specs.declared.entry.Stage.TheVariants as stage
use Rattle.session_actions.specs.declared.seen.Seen.{Seen}

-- a step of a settling, of sessions in which links are to subchannels and attempts what they are
abbrev pub IsNetPart : (OpenEntry → Seen → Type 0) → (StateSeen → StateSeen) → (OpenEntry → Seen → Type 0) → Type 0
IsNetPart Before step After =
    (x : StateSeen) (o : OpenEntry) (s : Seen) → Agrees x s → PrefacedLinksAreJoined s → IsAt stage.Settling o s → Before o s → Leads (step x) o s After

-- dials that took too long, and backoffs that are over
abbrev pub ClocksAreParts : Type 0
ClocksAreParts = IsNetPart IsBegun clocked IsClocked

-- wished subchannels connect, where no policy may take over. (Whether one may stays as it is while they do.)
abbrev pub WishesAreParts : Type 0
WishesAreParts = IsNetPart IsUncontested net_settled IsJoined
