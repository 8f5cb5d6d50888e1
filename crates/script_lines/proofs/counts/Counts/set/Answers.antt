use Rattle.std.proofs.Common.{Some, sym}
use Rattle.script_lines.proofs.CountLaws.{count_others, count_seen}
use Rattle.script_lines.proofs.counts.Counts.set.Goals as goal

pub returns-clause-ok : goal.returns-clause-ok
returns-clause-ok c = sym (count_seen c.args.path.items c.insert.new.self.entries (Some c.args.count) (sym c.in_ok-insert.ensures.updates.1))

pub returns-clause-others : goal.returns-clause-others
returns-clause-others c = λ other apart. rw (sym c.self.view_is) (count_others other c.args.path c.args.count c.self.inside.counts.entries c.insert.new.self.entries c.in_ok-insert.ensures.entries apart)
