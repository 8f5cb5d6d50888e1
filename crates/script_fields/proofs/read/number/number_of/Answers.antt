use Rattle.std.proofs.Common.{◌<◌, ◌^◌, refl, sym, ap, arith, rules, ◌∙◌}
use Rattle.std.specs.Prelude.{decimal}
use Rattle.std.proofs.lemmas.Bool.{true≢false}
use Rattle.script_fields.proofs.NumberLaws.{canonical_decimal, decimal_canonical, large_number}
use Rattle.script_fields.proofs.TextLaws.{if_none}
use Rattle.script_fields.proofs.read.number.number_of.Goals as goal

pub returns-then-not-is_canonical-clause-none : goal.returns-then-not-is_canonical-clause-none
returns-then-not-is_canonical-clause-none c = λ n small e. true≢false (sym (c.if-not-is_canonical.ensures.1 (decimal_canonical c.args.text.now n small e).0))

pub returns-in_err-number-clause-none : goal.returns-in_err-number-clause-none
returns-in_err-number-clause-none c = if_none _ (large_number c.args.text.now (c.if-not-is_canonical.ensures.0 refl) c.in_err-number.ensures.none)

pub returns-clause-some : goal.returns-clause-some
returns-clause-some c =
    let small : c.in_ok-number.number < 2 ^ 64 = search rules in
    canonical_decimal c.args.text.now (c.if-not-is_canonical.ensures.0 refl) (omega (arith, small, c.in_ok-number.ensures.some)) ∙ ap decimal c.in_ok-number.ensures.some
