use Rattle.std.proofs.Common.{arith, refl}
use Rattle.std.proofs.lemmas.Grind.{common_steps}
use Rattle.script_fields.proofs.TextLaws.{hex_other, hex_short}
use Rattle.script_fields.proofs.read.hex_bytes.bytes_of.Goals as goal

pub returns-in_default-afterwards-clause-none : goal.returns-in_default-afterwards-clause-none
returns-in_default-afterwards-clause-none c = λ v all e.
    hex_short c.args.text.now c.loop-rest.bytes.items v c.loop-rest.rest.now all c.loop-rest.invariant.1 e c.in-len1-up.len_at_least (grind (arith, common_steps, c.in_default-afterwards.len_below))

pub returns-in_default-byte_of-clause-none : goal.returns-in_default-byte_of-clause-none
returns-in_default-byte_of-clause-none c = λ v all e.
    hex_other c.args.text.now c.loop-rest.bytes.items v c.loop-rest.rest.now _ _ all c.loop-rest.invariant.1 e c.in-len1-up.len_at_least refl (grind (arith, common_steps)) c.in_default-byte_of.ensures.none
