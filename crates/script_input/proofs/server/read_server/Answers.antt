use Rattle.std.proofs.Common.{refl}
use Rattle.script_input.proofs.InputLaws.{exit_of}
use Rattle.script_input.proofs.ServerLaws.{gives_none, is_valid, reads_server}
use Rattle.script_input.proofs.server.read_server.Goals as goal

pub returns-in_err-read_lines-clause-bad : goal.returns-in_err-read_lines-clause-bad
returns-in_err-read_lines-clause-bad g c =
    exit_of c.from_residual.result _ c.in_err-read_lines.field-0.0 c.from_residual.ensures.1 (gives_none _ _ _ _ _ c.in_err-read_lines.ensures.bad)

pub returns-clause-ok : goal.returns-clause-ok
returns-clause-ok g c = reads_server _ _ c.read_lines.new.lines c.in_ok-read_lines.ensures.ok

pub returns-clause-valid : goal.returns-clause-valid
returns-clause-valid g c = is_valid c.read_lines.new.lines c.in_ok-read_lines.ensures.ok.texts _ refl c.in_ok-read_lines.ensures.ok.taken_are
