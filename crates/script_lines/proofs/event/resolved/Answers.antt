use Rattle.script_lines.specs.Fields.{addresses_field, config_or_dash_field}
use Rattle.script_lines.proofs.LineLaws.{second_fault, reported_exit}
use Rattle.script_lines.proofs.event.resolved.Goals as goal

pub returns-in_err-config-clause-bad : goal.returns-in_err-config-clause-bad
returns-in_err-config-clause-bad c =
    reported_exit _ _ _ c.from_residual-in_err-config.ensures.1 (second_fault addresses_field config_or_dash_field c.in-Some.addresses.now c.in-Some.config.now _ _ c.in-Some.ensures.some (c.in_ok-addresses.addresses, c.in_ok-addresses.ensures.ok) c.in_err-config.ensures.bad)
