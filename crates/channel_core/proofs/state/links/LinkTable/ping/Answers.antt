use Rattle.std.proofs.Common.{rules, sym}
use Rattle.channel_core.specs.Tables.{pinged_link, with_link}
use Rattle.channel_core.proofs.Places.{put_on}
use Rattle.channel_core.proofs.state.links.LinkTable.ping.Goals as goal

pub returns-in-Some : goal.returns-in-Some
returns-in-Some c = put_on (with_link (pinged_link c.args.word)) c.args.self.now c.args.link c.in-Some.slot.now _ _ (sym c.in-Some.ensures.slot) (search rules)
