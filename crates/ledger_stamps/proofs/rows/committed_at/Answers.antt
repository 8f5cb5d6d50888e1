use Rattle.ledger_stamps.specs.Steps.{committed_row}
use Rattle.ledger_stamps.proofs.Places.{set-changed}
use Rattle.ledger_stamps.proofs.rows.committed_at.Goals as goal

pub returns : goal.returns
returns c =
    set-changed (committed_row c.args.entry) c.args.rows.now.items c.args.index c.index_mut-chosen.result.now _ c.requires c.index_mut-chosen.ensures.value c.stamp_committed.ensures
