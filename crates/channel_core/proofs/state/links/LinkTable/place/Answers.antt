use Rattle.std.proofs.Common.{sym}
use Rattle.channel_core.specs.Tables.{placed_link, takes_rows_at, with_link}
use Rattle.channel_core.proofs.Places.{put_if}
use Rattle.channel_core.proofs.state.links.LinkTable.place.Goals as goal

pub returns-in-Some-clause-after : goal.returns-in-Some-clause-after
returns-in-Some-clause-after c =
    put_if takes_rows_at (with_link (placed_link c.args.row c.args.limit)) c.args.self.now c.args.link c.in-Some.slot.now _ _ (sym c.in-Some.ensures.slot) c.place.ensures.after
