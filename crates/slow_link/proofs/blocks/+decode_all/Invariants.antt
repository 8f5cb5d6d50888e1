use Rattle.std.proofs.Common.{length}
use Rattle.slow_link.proofs.blocks.+decode_all.Given as goal

-- one less after the first
abbrev pub decreases-decode_all : goal.decreases-decode_all
decreases-decode_all l = length l.traffic.now
