use Rattle.std.proofs.Common.{◌≡◌}
use Rattle.link_server.proofs.links.accept_links.Given as goal

-- no accept has failed
abbrev pub invariant-loop : goal.invariant-loop
invariant-loop g l = g.L.Listener.faults l.listener ≡ g.L.Listener.faults l.fn.listener
