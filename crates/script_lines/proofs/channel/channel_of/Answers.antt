use Rattle.script_fields.specs.Spelling.{fields}
use Rattle.script_lines.proofs.TargetLaws.{refused_target}
use Rattle.script_lines.proofs.channel.channel_of.Goals as goal

pub returns-in_err-value-clause-bad : goal.returns-in_err-value-clause-bad
returns-in_err-value-clause-bad c =
    refused_target c.from_residual.result (fields c.args.text.now) c.in-Some.ensures.some.0 c.in-Some.target.now c.in_err-value.field-0.0 c.in-Some.ensures.some.1 c.in-Some.ensures.some.2 c.from_residual.ensures.1 c.in_err-value.ensures.bad
