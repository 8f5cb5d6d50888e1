use Rattle.std.proofs.Common.{ℕ}
use Rattle.slow_net.proofs.table.+first_of_tiers.Given as goal

-- one tier less
abbrev pub decreases-first_of_tiers : goal.decreases-first_of_tiers
decreases-first_of_tiers l = l.left
