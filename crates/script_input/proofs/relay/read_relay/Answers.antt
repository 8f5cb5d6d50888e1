use Rattle.script_input.proofs.InputLaws.{exit_of}
use Rattle.script_input.proofs.RelayLaws.{gives_no_relay, relay_bad, relay_ok}
use Rattle.script_input.proofs.relay.read_relay.Goals as goal

pub returns-in_err-read_lines-clause-bad : goal.returns-in_err-read_lines-clause-bad
returns-in_err-read_lines-clause-bad g c =
    exit_of c.from_residual.result _ c.in_err-read_lines.field-0.0 c.from_residual.ensures.1 (gives_no_relay _ _ _ _ _ c.in_err-read_lines.ensures.bad)

pub returns-clause-ok : goal.returns-clause-ok
returns-clause-ok g c = relay_ok _ _ c.read_lines.new.lines c.script_of.result c.in_ok-read_lines.ensures.ok c.script_of.ensures.ok

pub returns-clause-bad : goal.returns-clause-bad
returns-clause-bad g c = relay_bad _ _ _ _ c.read_lines.new.lines c.script_of.result c.in_ok-read_lines.ensures.ok c.script_of.ensures.bad
