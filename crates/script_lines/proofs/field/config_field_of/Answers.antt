use Rattle.script_lines.proofs.FieldLaws.{config_reported}
use Rattle.script_lines.proofs.field.config_field_of.Goals as goal

pub returns-in-Err-clause-bad : goal.returns-in-Err-clause-bad
returns-in-Err-clause-bad c = config_reported c.args.text.now c.in-Err.fault c.fault_of.result c.fault_of.ensures c.in-Err.ensures.bad
