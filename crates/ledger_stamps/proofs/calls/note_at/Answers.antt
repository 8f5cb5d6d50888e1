use Rattle.ledger_stamps.proofs.Places.{noted-at}
use Rattle.ledger_stamps.proofs.calls.note_at.Goals as goal

pub returns-clause-ok : goal.returns-clause-ok
returns-clause-ok c =
    noted-at c.args.entry c.args.calls.now.items c.args.index c.index_mut-chosen.result.now _ _ c.requires c.index_mut-chosen.ensures.value c.note_call.ensures.ok
