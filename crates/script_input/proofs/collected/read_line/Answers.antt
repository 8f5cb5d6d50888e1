use Rattle.std.proofs.Common.{arith, sym, ◌+◌}
use Rattle.std.proofs.lemmas.Bool.{true≢false}
use Rattle.script_input.proofs.LineLaws.{read_done, reported_of}
use Rattle.script_input.proofs.collected.read_line.Goals as goal

pub returns-in-Ok-clause-ok : goal.returns-in-Ok-clause-ok
returns-in-Ok-clause-ok c =
    read_done c.args.form c.args.reader.now _ c.args.records (c.lines.result + c.args.records + 1) c.args.text.now c.part_of.result.now c.in-Ok.read c.requires.kind
    (omega (arith, c.lines.ensures.value)) (omega (arith, c.if-records-gt0.false)) c.in_default.ensures.ok (λ h. true≢false (sym (c.if-is_record_at.ensures.1 h)))
    c.part_of.ensures c.in-Ok.ensures.ok c.in-Ok.ensures.afterwards

pub returns-in-Err-line-clause-bad : goal.returns-in-Err-line-clause-bad
returns-in-Err-line-clause-bad c =
    reported_of c.args.form c.args.reader.now c.args.records (c.lines.result + c.args.records + 1) c.args.text.now c.part_of.result.now c.in-Err-line.bad c.fault_of.result c.requires.kind
    (omega (arith, c.lines.ensures.value)) (omega (arith, c.if-records-gt0.false)) c.in_default.ensures.ok (λ h. true≢false (sym (c.if-is_record_at.ensures.1 h)))
    c.part_of.ensures c.in-Err-line.ensures.bad c.fault_of.ensures
