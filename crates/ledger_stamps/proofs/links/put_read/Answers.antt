use Rattle.std.proofs.Common.{◌∙◌, refl}
use Rattle.ledger_stamps.specs.Steps.{read_link}
use Rattle.ledger_stamps.proofs.Places.{set-got}
use Rattle.ledger_stamps.proofs.links.put_read.Goals as goal

pub returns : goal.returns
returns c = c.put.ensures ∙ set-got (read_link c.args.read) c.args.links.now c.args.index c.args.seen _ c.requires refl
