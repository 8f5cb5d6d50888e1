use Rattle.std.proofs.Common.{◌≡◌, ◌++◌, drop, map}
use Rattle.session_actions.specs.Sessions.{link_seen}
use Rattle.slow_session.proofs.report.links_seen.Given as goal

-- the links so far, and those that are left
abbrev pub invariant-loop-link : goal.invariant-loop-link
invariant-loop-link l = l.seen.items ++ map link_seen (drop l.link-index l.links) ≡ map link_seen l.links
