use Rattle.ledger_stamps.specs.Steps.{ended_call}
use Rattle.ledger_stamps.proofs.Places.{set-changed}
use Rattle.ledger_stamps.proofs.calls.end_at.Goals as goal

pub returns : goal.returns
returns c =
    set-changed (ended_call c.args.end) c.args.calls.now.items c.args.index c.index_mut-chosen.result.now _ c.requires c.index_mut-chosen.ensures.value c.stamp_end.ensures
