use Rattle.std.proofs.Common.{◌≡◌, ℕ, List, OnOk, rules, subst}
use Rattle.grpc_base.specs.Posts.{AddsEntry}
use Rattle.grpc_base.specs.declared.event.Event.TheVariants as event
use Rattle.grpc_base.specs.declared.event.Reply.{Reply}
use Rattle.client_calls.proofs.ExchangeLaws.{passed}
use Rattle.client_calls.proofs.whole.send_one.Goals as goal

pub returns-clause-sent : goal.returns-clause-sent
returns-clause-sent g c =
    let did = c.send.ensures.sent in
    let is : c.in_ok-message.message ≡ c.args.message.now = search rules in
    subst (λ (m : List ℕ). OnOk c.unless_refused.result ((r : Reply) × AddsEntry (g.P.Post.made c.args.post.now) (g.P.Post.made c.send.new.post) (event.Send c.args.call m) r)) is
    (passed _ _ (event.Send c.args.call c.in_ok-message.message) did.0 _ _ did.1 did.2 c.unless_refused.ensures)
