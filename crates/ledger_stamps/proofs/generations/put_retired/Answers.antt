use Rattle.std.proofs.Common.{◌∙◌}
use Rattle.ledger_stamps.specs.Steps.{retired_generation}
use Rattle.ledger_stamps.proofs.Places.{set-got}
use Rattle.ledger_stamps.proofs.generations.put_retired.Goals as goal

pub returns : goal.returns
returns c = c.put.ensures ∙ set-got (retired_generation c.args.entry) c.args.generations.now c.args.index c.args.seen _ c.requires c.stamp_retired-after.ensures
