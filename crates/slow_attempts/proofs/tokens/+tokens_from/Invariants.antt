use Rattle.std.proofs.Common.{length}
use Rattle.slow_attempts.proofs.tokens.+tokens_from.Given as goal

-- one less after the first
abbrev pub decreases-tokens_from : goal.decreases-tokens_from
decreases-tokens_from l = length l.places.now
