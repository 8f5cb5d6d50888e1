use Rattle.std.proofs.Common.{length}
use Rattle.slow_session.proofs.results.+are_same_addresses.Given as goal

-- one address less
abbrev pub decreases-are_same_addresses : goal.decreases-are_same_addresses
decreases-are_same_addresses l = length l.addresses.now
