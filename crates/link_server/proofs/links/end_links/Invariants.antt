use Rattle.std.proofs.Common.{◌≡◌}
use Rattle.link_server.proofs.links.end_links.Given as goal

-- nothing has failed
abbrev pub invariant-loop : goal.invariant-loop
invariant-loop g l = g.L.Listener.faults l.listener ≡ g.L.Listener.faults l.fn.listener
