use Rattle.std.proofs.Common.{length}
use Rattle.slow_link.proofs.responses.+response_with.Given as goal

-- one less after the first
abbrev pub decreases-response_with : goal.decreases-response_with
decreases-response_with l = length l.traffic.now
