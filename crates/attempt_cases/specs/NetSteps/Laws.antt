-- A step of the net keeps channel and session in agreement, since no other part of the channel is touched (`other_calls`, `link_frames`, `kept_sessions`).
-- Example: subchannel 1 becomes CONNECTING, as its policy wishes. Calls, attempts, sets and links are as before, so all that agreed still does.
use Rattle.std.specs.Prelude.{Some, false, ℕ, ◌≡◌}
use Rattle.channel_actions.specs.Agrees.{Agrees}
use Rattle.channel_actions.specs.Links.{SeesLinks}
use Rattle.channel_core.specs.States.{StateSeen}
use Rattle.channel_actions.specs.KeptSessions.Kept.{IsKept}
use Rattle.channel_actions.specs.LinkFrames.Alike.{SeesNoDifference, IsLinkStill, Numbers}
use Rattle.channel_actions.specs.BoardActions.Boards.{IsBoarded}
use Rattle.attempt_cases.specs.NetSteps.Steps.{IsNetStep}
use Rattle.session_actions.specs.Words.{numbered}
use Rattle.session_actions.specs.declared.link.Link.{Link}
use Rattle.session_actions.specs.declared.seen.Seen.{Seen}

-- a link that is as it was sees no difference
abbrev pub LinksSeeNoDifference : Type 0
LinksSeeNoDifference =
    (touched : Numbers) (s t : Seen) → IsBoarded s t
    → ((link : ℕ) (m : Link) → touched link ≡ false → numbered t.links link ≡ Some m → (l : Link) × (numbered s.links link ≡ Some l) × IsLinkStill l m)
    → SeesNoDifference touched s t

-- so where no link changed, all agree as before
abbrev pub LinksWithoutDifferenceAgree : Type 0
LinksWithoutDifferenceAgree =
    (x y : StateSeen) (s t : Seen) → IsKept s → IsKept t → IsBoarded s t → t.links ≡ s.links → y.links ≡ x.links → SeesLinks x s → SeesLinks y t

-- and channel and session agree after a step of the net
abbrev pub NetStepsKeep : Type 0
NetStepsKeep = (x y : StateSeen) (s t : Seen) → Agrees x s → IsNetStep x y s t → Agrees y t
