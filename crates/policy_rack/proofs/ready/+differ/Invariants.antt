use Rattle.std.proofs.Common.{length}
use Rattle.policy_rack.proofs.ready.+differ.Given as goal

abbrev pub decreases-differ : goal.decreases-differ
decreases-differ g l = length l.policies.now
