use Rattle.std.proofs.Common.{length}
use Rattle.slow_link.proofs.fields.+first_value.Given as goal

-- one less after the first
abbrev pub decreases-first_value : goal.decreases-first_value
decreases-first_value l = length l.fields.now
