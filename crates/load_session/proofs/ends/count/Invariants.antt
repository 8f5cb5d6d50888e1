use Rattle.std.proofs.Common.{◌≡◌, take}
use Rattle.std.specs.List.{count_by}
use Rattle.load_session.specs.Sums.{has_outcome}
use Rattle.load_session.proofs.ends.count.Given as goal

abbrev pub invariant-loop-end : goal.invariant-loop-end
invariant-loop-end l = l.count ≡ count_by (has_outcome l.outcome) (take l.end-index l.ends)
