use Rattle.std.proofs.Common.{◌≡◌, ◌+◌, ◌++◌}
use Rattle.std.specs.List.{flat_map, range_with_len}
use Rattle.load_plan.specs.Plan.{call_actions}
use Rattle.load_plan.proofs.batch.append_calls.Given as goal

abbrev pub invariant-loop-place : goal.invariant-loop-place
invariant-loop-place l = l.actions ≡ l.fn.actions ++ flat_map (call_actions l.fn.seed l.fn.nanos) (range_with_len (l.fn.before + 1) l.place)
