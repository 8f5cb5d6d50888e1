use Rattle.ledger_stamps.specs.Steps.{configured_call}
use Rattle.ledger_stamps.proofs.Places.{set-changed}
use Rattle.ledger_stamps.proofs.calls.configured_at.Goals as goal

pub returns : goal.returns
returns c =
    set-changed (configured_call c.args.entry) c.args.calls.now.items c.args.index c.index_mut-chosen.result.now _ c.requires c.index_mut-chosen.ensures.value c.stamp_configured.ensures
