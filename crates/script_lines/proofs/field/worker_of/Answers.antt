use Rattle.script_lines.proofs.FieldLaws.{no_worker}
use Rattle.script_lines.proofs.field.worker_of.Goals as goal

pub returns-then-worker-eq0-clause-bad : goal.returns-then-worker-eq0-clause-bad
returns-then-worker-eq0-clause-bad c = no_worker c.in-Some.worker c.args.text.now c.bad-then-worker-eq0.result c.if-worker-eq0.true c.in-Some.ensures.some.1 c.bad-then-worker-eq0.ensures
