use Rattle.script_lines.proofs.FieldLaws.{addresses_reported}
use Rattle.script_lines.proofs.field.addresses_field_of.Goals as goal

pub returns-in-Err-clause-bad : goal.returns-in-Err-clause-bad
returns-in-Err-clause-bad c = addresses_reported c.args.text.now c.in-Err.fault c.fault_of.result c.fault_of.ensures c.in-Err.ensures.bad
