use Rattle.std.proofs.Common.{length}
use Rattle.slow_link.proofs.blocks.+open_block_after.Given as goal

-- one less after the first
abbrev pub decreases-open_block_after : goal.decreases-open_block_after
decreases-open_block_after l = length l.traffic.now
