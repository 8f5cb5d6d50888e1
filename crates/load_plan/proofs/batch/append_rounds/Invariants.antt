use Rattle.std.proofs.Common.{◌≡◌, ◌++◌}
use Rattle.std.specs.List.{flat_map, range_with_len}
use Rattle.load_plan.specs.Plan.{round_actions}
use Rattle.load_plan.proofs.batch.append_rounds.Given as goal

abbrev pub invariant-loop-before : goal.invariant-loop-before
invariant-loop-before l = l.actions ≡ l.fn.actions ++ flat_map (round_actions l.fn.nanos) (range_with_len 1 l.before)
