use Rattle.std.proofs.Common.{arith}
use Rattle.std.proofs.lemmas.Grind.{common_steps}
use Rattle.script_fields.proofs.Digits.{hex_same}
use Rattle.script_fields.proofs.write.texts.append_hex.Goals as goal

pub returns : goal.returns
returns c =
    let same = hex_same c.args.bytes.now (λ i. omega (arith, c.type_inv.bytes i)) in
    grind (arith, common_steps, same)
