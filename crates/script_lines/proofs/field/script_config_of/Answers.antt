use Rattle.std.proofs.Common.{arith}
use Rattle.script_fields.specs.Reading.{SpellsPiece}
use Rattle.script_lines.proofs.FieldLaws.{long_piece}
use Rattle.script_lines.proofs.field.script_config_of.Goals as goal

pub returns-then-len-gt-CONFIG_BYTES-clause-bad : goal.returns-then-len-gt-CONFIG_BYTES-clause-bad
returns-then-len-gt-CONFIG_BYTES-clause-bad c =
    let is : SpellsPiece c.args.text.now c.in-Some.config = (rw c.in-Some.is at c.in_ok-config.ensures.some) in
    long_piece c.args.text.now c.in-Some.config c.bad-then-len-gt-CONFIG_BYTES.result is (omega (arith, c.if-len-gt-CONFIG_BYTES.true, c.len.ensures)) c.bad-then-len-gt-CONFIG_BYTES.ensures
