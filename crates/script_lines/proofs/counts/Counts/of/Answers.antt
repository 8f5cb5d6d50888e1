use Rattle.std.proofs.Common.{Some, None, sym}
use Rattle.script_lines.proofs.CountLaws.{count_seen}
use Rattle.script_lines.proofs.counts.Counts.of.Goals as goal

pub returns-in-Some : goal.returns-in-Some
returns-in-Some c = rw (sym c.self.view_is) (count_seen c.args.path.now c.self.inside.counts.entries (Some c.in-Some.count.now) c.in-Some.ensures.value)

pub returns-in-None : goal.returns-in-None
returns-in-None c = rw (sym c.self.view_is) (count_seen c.args.path.now c.self.inside.counts.entries None c.in-None.ensures.value)
