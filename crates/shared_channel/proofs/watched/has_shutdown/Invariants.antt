use Rattle.std.proofs.Common.{◌≡◌, length}
use Rattle.shared_channel.specs.Histories.{has_shutdown}
use Rattle.shared_channel.proofs.watched.has_shutdown.Given as goal

abbrev pub invariant-loop-rest : goal.invariant-loop-rest
invariant-loop-rest l = has_shutdown l.rest ≡ has_shutdown l.fn.entries

abbrev pub decreases-loop-rest : goal.decreases-loop-rest
decreases-loop-rest l = length l.rest
