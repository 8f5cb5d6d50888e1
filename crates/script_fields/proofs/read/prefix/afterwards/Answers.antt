use Rattle.script_fields.proofs.TextLaws.{prefix_taken, prefix_not_taken}
use Rattle.script_fields.proofs.read.prefix.afterwards.Goals as goal

pub returns-clause-some : goal.returns-clause-some
returns-clause-some c = prefix_taken (λ r. r.now) c.strip_prefix.result c.args.text.now c.args.head.now c.strip_prefix.ensures.cases

pub returns-clause-none : goal.returns-clause-none
returns-clause-none c = prefix_not_taken (λ r. r.now) c.strip_prefix.result c.args.text.now c.args.head.now c.strip_prefix.ensures.cases
