use Rattle.std.proofs.Common.{arith}
use Rattle.std.proofs.lemmas.Grind.{common_steps}
use Rattle.script_fields.proofs.Digits.{percent_same}
use Rattle.script_fields.proofs.write.texts.append_escaped.Goals as goal

pub returns : goal.returns
returns c =
    let same = percent_same c.args.text.now (λ i. omega (arith, c.type_inv.text i)) in
    grind (arith, common_steps, same)
