use Rattle.service_config.specs.Entries.{name_seen}
use Rattle.service_config.proofs.Names.{knows_after, repeated, fresh}
use Rattle.service_config.proofs.known.Known.with.Goals as goal

pub returns-then-not-branch : goal.returns-then-not-branch
returns-then-not-branch c =
    repeated c.args.self.keys c.args.self.methods.items c.in_ok-key.key (name_seen c.args.name) c.in_ok-insert.field-0 c.args.entry c.args.at c.args.settings.now
    c.args.self.whole c.in_ok-key.ensures c.in_ok-insert.ensures.added c.if-not-branch.true

pub invariant_of-result : goal.invariant_of-result
invariant_of-result c = record {
  whole = knows_after c.args.self.keys c.insert.new.self.keys c.args.self.methods.items c.push.new.self.items c.in_ok-method.method c.in_ok-key.key (name_seen c.args.name) c.args.settings.now
      c.args.self.whole c.in_ok-key.ensures c.in_ok-insert.ensures.keys c.in_ok-method.ensures c.in_ok-push.ensures.items;
}

pub returns : goal.returns
returns c =
    fresh c.args.self.keys c.args.self.methods.items c.push.new.self.items c.in_ok-method.method c.in_ok-key.key (name_seen c.args.name) c.in_ok-insert.field-0 c.args.entry c.args.at c.args.settings.now
    c.args.self.whole c.in_ok-key.ensures c.in_ok-insert.ensures.added c.if-not-branch.false c.in_ok-method.ensures c.in_ok-push.ensures.items
