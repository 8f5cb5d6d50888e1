use Rattle.std.proofs.Common.{sym}
use Rattle.script_lines.specs.Reader.{IsLine, IsLineFault, ReaderSeen}
use Rattle.script_lines.proofs.AgainLaws.{line_again}
use Rattle.script_lines.proofs.DataLaws.{line_kept}
use Rattle.script_lines.proofs.OneLine.{line_one}
use Rattle.script_lines.proofs.ReaderLaws.{read_line}
use Rattle.script_lines.proofs.reader.ScriptReader.line.Goals as goal

pub returns-in-Err-Bad-clause-no_line : goal.returns-in-Err-Bad-clause-no_line
returns-in-Err-Bad-clause-no_line c =
    let r : ReaderSeen = record { kind = c.self.inside.kind; lines = c.self.inside.lines; answered = c.self.inside.counts } in
    let reported : IsLineFault r c.args.text.now c.args.closed c.in-Err-Bad.cause = (rw c.in-Err-Bad.field-0-is at c.in-Err-Bad.ensures.bad) in
    rw (sym c.self.view_is) (λ read t. read_line r c.args.text.now c.args.closed read c.in-Err-Bad.cause t reported)

pub returns-in-Ok-clause-only : goal.returns-in-Ok-clause-only
returns-in-Ok-clause-only c =
    let r : ReaderSeen = record { kind = c.self.inside.kind; lines = c.self.inside.lines; answered = c.self.inside.counts } in
    let t : IsLine r c.args.text.now c.args.closed c.in-Ok.read = c.in-Ok.ensures.ok in
    rw (sym c.self.view_is) (line_one r c.args.text.now c.args.closed c.in-Ok.read t)

pub returns-in-Ok-clause-rules : goal.returns-in-Ok-clause-rules
returns-in-Ok-clause-rules c =
    let r : ReaderSeen = record { kind = c.self.inside.kind; lines = c.self.inside.lines; answered = c.self.inside.counts } in
    let t : IsLine r c.args.text.now c.args.closed c.in-Ok.read = c.in-Ok.ensures.ok in
    line_kept r c.args.text.now c.args.closed c.in-Ok.read t

pub returns-in-Ok-clause-again : goal.returns-in-Ok-clause-again
returns-in-Ok-clause-again c =
    let r : ReaderSeen = record { kind = c.self.inside.kind; lines = c.self.inside.lines; answered = c.self.inside.counts } in
    let t : IsLine r c.args.text.now c.args.closed c.in-Ok.read = c.in-Ok.ensures.ok in
    line_again r c.args.text.now c.args.closed c.in-Ok.read t
