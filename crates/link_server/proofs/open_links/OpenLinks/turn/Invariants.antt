use Rattle.std.proofs.Common.{length, ◌-◌}
use Rattle.link_server.proofs.open_links.OpenLinks.turn.Given as goal

abbrev pub decreases-loop-place : goal.decreases-loop-place
decreases-loop-place g l = length l.self.links.items - l.place
