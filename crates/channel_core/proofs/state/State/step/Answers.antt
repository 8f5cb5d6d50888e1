use Rattle.channel_core.proofs.SteppingLaws.{stepped_by}
use Rattle.channel_core.proofs.state.State.step.Goals as goal

pub returns : goal.returns
returns g c =
    stepped_by c.args.entry c.args.moment c.args.word c.args.event.now c.args.self.now c.begin_step.new.self c.end_overdue.new.self c.apply.new.self c.settle.new.self c.in_ok-reply.reply
    c.begin_step.ensures c.in_ok-end_overdue.ensures c.in_ok-reply.ensures c.in_ok-settle.ensures
