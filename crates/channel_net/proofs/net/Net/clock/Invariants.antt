use Rattle.std.proofs.Common.{◌≡◌}
use Rattle.channel_net.specs.Steps.{clock_rounds, clocks_left, left, net_clocked}
use Rattle.channel_net.proofs.net.Net.clock.Given as goal

-- the changes that are left give the end
abbrev pub invariant-clocks : goal.invariant-clocks
invariant-clocks g l = clock_rounds l.moment (clocks_left l.self.board) (left l.self l.dead) ≡ net_clocked l.moment l.fn.self

abbrev pub decreases-clocks : goal.decreases-clocks
decreases-clocks g l = clocks_left l.self.board
