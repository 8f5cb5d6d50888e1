use Rattle.std.proofs.Common.{length}
use Rattle.grpc_base.proofs.host.+are_labels.Given as goal

-- what is left is shorter
abbrev pub decreases-are_labels : goal.decreases-are_labels
decreases-are_labels l = length l.text.now
