use Rattle.script_input.proofs.LiveLaws.{live_read, taken_live}
use Rattle.script_input.proofs.live_lines.LiveLinesLines.take.Goals as goal

pub keep_live-requires : goal.keep_live-requires
keep_live-requires c = live_read c.args.self.now.reader c.args.text.now c.in-Ok.read c.args.self.now.is_live c.in-Ok.ensures.ok

pub returns-in-Ok-clause-taken : goal.returns-in-Ok-clause-taken
returns-in-Ok-clause-taken c = taken_live c.args.self.now _ c.args.text.now c.in-Ok.read c.keep_live.result c.in-Ok.ensures.ok c.in-Ok.ensures.afterwards c.keep_live.ensures.kept
