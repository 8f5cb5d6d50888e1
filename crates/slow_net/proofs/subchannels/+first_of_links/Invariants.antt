use Rattle.std.proofs.Common.{length}
use Rattle.slow_net.proofs.subchannels.+first_of_links.Given as goal

-- one subchannel less
abbrev pub decreases-first_of_links : goal.decreases-first_of_links
decreases-first_of_links l = length l.subs.now
