use Rattle.std.proofs.Common.{◌∙◌}
use Rattle.ledger_stamps.specs.Steps.{gone_link}
use Rattle.ledger_stamps.proofs.Places.{set-got}
use Rattle.ledger_stamps.proofs.links.put_gone.Goals as goal

pub returns : goal.returns
returns c = c.put.ensures ∙ set-got (gone_link c.args.entry) c.args.links.now c.args.index c.args.seen _ c.requires c.stamp_gone-after.ensures
