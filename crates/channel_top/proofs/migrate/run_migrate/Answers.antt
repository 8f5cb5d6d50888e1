use Rattle.std.proofs.Common.{inl, inr, rules}
use Rattle.script_lines.specs.Spelling.{script_of}
use Rattle.channel_top.specs.Migrate.{IsMigrated}
use Rattle.channel_top.proofs.AgainLaws.{migrated}
use Rattle.channel_top.proofs.migrate.run_migrate.Goals as goal

pub returns-in-Ok : goal.returns-in-Ok
returns-in-Ok g c =
    let done : IsMigrated (g.S.Source.left c.args.input.now) (g.S.Source.left c.read_report.new.source) (script_of c.in-Ok.read.target c.in-Ok.read.events.items) =
    migrated _ _ c.in-Ok.read.target c.in-Ok.read.value c.in-Ok.read.events.items c.in-Ok.ensures.ok in
    record {
      done = λ zero. (script_of c.in-Ok.read.target c.in-Ok.read.events.items, done, c.write_read.ensures.done zero);
      line = search rules;
      reading = search rules;
      writing = λ five. (c.write_read.ensures.writing five, (script_of c.in-Ok.read.target c.in-Ok.read.events.items, inl done, c.write_read.ensures.prefix (inl five)));
      memory = λ six. inr (script_of c.in-Ok.read.target c.in-Ok.read.events.items, inl done, c.write_read.ensures.prefix (inr six));
      known = search rules;
    }
