-- A link that is not over, and takes further streams, is its subchannel's own, unless that was shut down ("gRPC Connectivity Semantics and API"). So a subchannel that is
-- shut down gives up one such link at most. (That the link of a subchannel came up for it is `AreOwnLinks` of `own_links`.)
-- Example: link 1 of subchannel 1 gets GOAWAY, and subchannel 1 dials again: link 2 is its own. Link 1 takes no further stream, and is no subchannel's own.
use Rattle.session_actions.specs.Links.{is_retiring}
use Rattle.session_actions.specs.Policies.{is_shutdown}
use Rattle.session_actions.specs.Words.{numbered}
use Rattle.session_actions.specs.declared.link.Link.{Link}
use Rattle.session_actions.specs.declared.seen.Seen.{Seen}
use Rattle.session_actions.specs.declared.subchannel.Subchannel.{Subchannel}
use Rattle.std.specs.Prelude.{None, Some, false, ℕ, ◌≡◌}

abbrev pub LinksAreTheirs : Seen → Type 0
LinksAreTheirs s =
    (k : ℕ) (l : Link) (b : Subchannel) → numbered s.links k ≡ Some l → l.over ≡ None → is_retiring l ≡ false → numbered s.subs l.sub ≡ Some b
    → is_shutdown b.state ≡ false → b.link ≡ Some k
