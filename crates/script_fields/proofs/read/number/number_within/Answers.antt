use Rattle.std.proofs.Common.{◌≡◌, sym, arith, ◌∙◌}
use Rattle.std.proofs.lemmas.Fmt.{decimal_injective}
use Rattle.script_fields.proofs.read.number.number_within.Goals as goal

pub returns-then-number-most-clause-none : goal.returns-then-number-most-clause-none
returns-then-number-most-clause-none c = λ n within e.
    let same : n ≡ c.in_ok-number.number = decimal_injective n c.in_ok-number.number (omega (arith, c.ranges.most.fits)) c.in_ok-number.ensures.within (sym e ∙ c.in_ok-number.ensures.some) in
    absurd (omega (arith, c.if-number-most.true))
