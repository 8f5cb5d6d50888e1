-- Each turn adds the answer of the next number.
use Rattle.std.proofs.Common.{◌≡◌, ◌+◌, [], ◌∷◌, ◌++◌, ap, ◌∙◌, arith}
use Rattle.load_plan.specs.Answers.{answer, drawn_answer, drawn_parts}
use Rattle.load_plan.proofs.Runs.{each_more}
use Rattle.load_plan.proofs.answers.answers.Goals as goal

pub loop-before-preserved : goal.loop-before-preserved
loop-before-preserved c =
    let next : 1 + c.loop-before.before ≡ c.loop-before.before + 1 = omega arith in
    each_more (drawn_answer c.args.load.seed) 1 c.loop-before.before (c.loop-before.before + 1) [] c.loop-before.answers c.push.new.self next c.loop-before.invariant
    (c.in_ok-push.ensures.ok
    ∙ ap (λ a. c.loop-before.answers ++ a ∷ []) (c.in_ok-answer.ensures ∙ ap (answer (c.loop-before.before + 1)) (c.in_ok-parts.ensures ∙ ap drawn_parts c.drawn.ensures.value)))
