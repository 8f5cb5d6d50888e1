use Rattle.std.proofs.Common.{◌≡◌, ◌+◌, ◌++◌, map}
use Rattle.std.specs.List.{range_with_len}
use Rattle.load_plan.specs.Plan.{takes_at}
use Rattle.load_plan.proofs.batch.append_takes.Given as goal

abbrev pub invariant-loop-place : goal.invariant-loop-place
invariant-loop-place l = l.actions ≡ l.fn.actions ++ map (takes_at l.fn.nanos) (range_with_len (l.fn.before + 1) l.place)
