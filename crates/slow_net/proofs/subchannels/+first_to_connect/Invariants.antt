use Rattle.std.proofs.Common.{length}
use Rattle.slow_net.proofs.subchannels.+first_to_connect.Given as goal

-- one subchannel less
abbrev pub decreases-first_to_connect : goal.decreases-first_to_connect
decreases-first_to_connect l = length l.subs.now
