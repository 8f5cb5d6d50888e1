use Rattle.std.proofs.Common.{◌≡◌, sym, Some, ◌∙◌, arith}
use Rattle.json_text.specs.Decimals.{milli_of}
use Rattle.config_values.proofs.Durations.{ratio_within}
use Rattle.config_values.proofs.value.ratio_of.Goals as goal

pub overflow_cast-result : goal.overflow_cast-result
overflow_cast-result c =
    let read : milli_of c.args.text.now ≡ Some c.in-Some.ratio = sym c.milli.ensures ∙ c.in-Some.is in
    let few = ratio_within c.args.text.now c.in-Some.ratio (sym c.within_thousand.ensures ∙ c.if-not-within_thousand.false) read in
    omega (arith, few)
