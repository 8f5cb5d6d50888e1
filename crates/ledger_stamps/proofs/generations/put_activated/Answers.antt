use Rattle.std.proofs.Common.{◌∙◌}
use Rattle.ledger_stamps.specs.Steps.{activated_generation}
use Rattle.ledger_stamps.proofs.Places.{set-got}
use Rattle.ledger_stamps.proofs.generations.put_activated.Goals as goal

pub returns : goal.returns
returns c = c.put.ensures ∙ set-got (activated_generation c.args.entry) c.args.generations.now c.args.index c.args.seen _ c.requires c.stamp_activated-after.ensures
