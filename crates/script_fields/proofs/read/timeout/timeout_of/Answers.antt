use Rattle.std.proofs.Common.{Some, sym, subst, arith, refl}
use Rattle.grpc_base.specs.Numbers.{number_of}
use Rattle.script_fields.specs.Reading.{SpellsNumber}
use Rattle.script_fields.proofs.NumberLaws.{number_above, number_spelled}
use Rattle.script_fields.proofs.read.timeout.timeout_of.Goals as goal

pub returns-in-Some-clause-spelled : goal.returns-in-Some-clause-spelled
returns-in-Some-clause-spelled c = subst (λ t. SpellsNumber t c.in-Some.number) (sym c.in-Some.ensures.some.1) (number_spelled c.in-Some.number (omega (arith, c.in-Some.ensures.some.0)))

pub returns-in-None-clause-bad : goal.returns-in-None-clause-bad
returns-in-None-clause-bad c =
    let spelled : SpellsNumber c.args.text.now (number_of c.args.text.now) = c.if-not-is_canonical.ensures.0 refl in
    (Some (number_of c.args.text.now), spelled, number_above c.args.text.now _ (omega arith) spelled c.in-None.ensures.none)
