use Rattle.script_lines.proofs.LineLaws.{none_left}
use Rattle.script_lines.proofs.event.without_fields.Goals as goal

pub returns-in-Some-clause-bad : goal.returns-in-Some-clause-bad
returns-in-Some-clause-bad c = rw c.in-Some.is (none_left c.in-Some.field-0.now c.bad.result c.bad.ensures)
