use Rattle.std.proofs.Common.{◌≡◌, map}
use Rattle.std.specs.List.{range_with_len}
use Rattle.load_plan.specs.Answers.{drawn_answer}
use Rattle.load_plan.proofs.answers.answers.Given as goal

abbrev pub invariant-loop-before : goal.invariant-loop-before
invariant-loop-before l = l.answers ≡ map (drawn_answer l.fn.load.seed) (range_with_len 1 l.before)
