use Rattle.script_lines.proofs.FieldLaws.{message_reported}
use Rattle.script_lines.proofs.field.message_field_of.Goals as goal

pub returns-in-Err-clause-bad : goal.returns-in-Err-clause-bad
returns-in-Err-clause-bad c = message_reported c.args.text.now c.in-Err.fault c.fault_of.result c.fault_of.ensures c.in-Err.ensures.bad
