use Rattle.std.proofs.Common.{length}
use Rattle.slow_net.proofs.subchannels.+first_of_clock.Given as goal

-- one subchannel less
abbrev pub decreases-first_of_clock : goal.decreases-first_of_clock
decreases-first_of_clock l = length l.subs.now
