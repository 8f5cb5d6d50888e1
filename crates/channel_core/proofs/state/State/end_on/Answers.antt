use Rattle.std.proofs.Common.{rules}
use Rattle.channel_core.proofs.Arriving.{row_ended}
use Rattle.channel_core.proofs.state.State.end_on.Goals as goal

pub returns : goal.returns
returns g c =
    row_ended c.self.view_is c.args.link c.args.row c.call_of_row-call.result c.args.end c.give_news.new.self c.stamp_gone.new.self c.leave-was.new.self
    (search rules) (search rules) (search rules) (search rules) (search rules)
