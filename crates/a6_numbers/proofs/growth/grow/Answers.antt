use Rattle.std.proofs.Common.{◌≡◌, ◌∙◌, sym, arith}
use Rattle.a6_numbers.proofs.GrowthLaws.{next_of, grown_still}
use Rattle.a6_numbers.proofs.growth.grow.Goals as goal

pub returns-then-next-value-clause-value : goal.returns-then-next-value-clause-value
returns-then-next-value-clause-value c =
    let same : next_of c.args.factor c.args.limit c.loop-times_so_far.value ≡ c.loop-times_so_far.value =
    sym c.grow_once-next.ensures ∙ c.if-next-value.true in
    grown_still _ _ _ _ c.loop-times_so_far.times_so_far _ c.loop-times_so_far.invariant.value same (omega arith)
