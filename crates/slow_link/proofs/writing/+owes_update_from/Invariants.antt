use Rattle.std.proofs.Common.{length}
use Rattle.slow_link.proofs.writing.+owes_update_from.Given as goal

-- one less after the first
abbrev pub decreases-owes_update_from : goal.decreases-owes_update_from
decreases-owes_update_from l = length l.traffic.now
