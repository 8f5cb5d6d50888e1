use Rattle.std.proofs.Common.{IfOk, sym, subst}
use Rattle.grpc_base.specs.declared.event.Event.{Event}
use Rattle.grpc_base.specs.declared.event.Reply.{Reply}
use Rattle.channel_core.specs.Applying.{Applies}
use Rattle.channel_core.proofs.Asking.{send_applied}
use Rattle.channel_core.proofs.state.State.applied.Goals as goal

pub returns-in_ok-share-in-Send : goal.returns-in_ok-share-in-Send
returns-in_ok-share-in-Send g c =
    let P : Event → Type 0 = λ e. IfOk c.act_on.result (λ (r : Reply). Applies e c.args.self.now c.act_on.new.self r) in
    subst P (sym c.in-Send.is)
    (send_applied c.act_on.result c.in_ok-share-in-Send.field-0 c.in-Send.message c.in-Send.call c.args.self.now c.act_on.new.self c.in_ok-share-in-Send.ensures c.act_on.ensures.state c.act_on.ensures.reply)
