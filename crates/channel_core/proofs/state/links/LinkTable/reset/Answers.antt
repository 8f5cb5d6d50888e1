use Rattle.std.proofs.Common.{rules, sym}
use Rattle.channel_core.specs.Tables.{reset_link, with_link}
use Rattle.channel_core.proofs.Places.{put_on}
use Rattle.channel_core.proofs.state.links.LinkTable.reset.Goals as goal

pub returns-in-Some : goal.returns-in-Some
returns-in-Some c = put_on (with_link (reset_link c.args.row)) c.args.self.now c.args.link c.in-Some.slot.now _ _ (sym c.in-Some.ensures.slot) (search rules)
