use Rattle.std.proofs.Common.{sym}
use Rattle.script_input.proofs.StateLaws.{blank_of, unscript_empty}
use Rattle.script_input.proofs.collected.Collected.finish.Goals as goal

pub returns-clause-bad : goal.returns-clause-bad
returns-clause-bad c = unscript_empty c.args.self (blank_of c.args.self.line.items c.args.self.line.len c.is_empty.result (sym c.args.self.line.ok.0) c.is_empty.ensures c.if-not-is_empty.false) c.in-None.is
