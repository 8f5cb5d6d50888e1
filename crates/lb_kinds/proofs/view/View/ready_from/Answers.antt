use Rattle.std.proofs.Common.{◌≡◌, ◌∙◌, List, take, drop, ap}
use Rattle.lb_policy.specs.Table.{is_ready, subs_in}
use Rattle.lb_kinds.specs.declared.marked.Marked.{Marked}
use Rattle.lb_kinds.specs.Seen.{Viewed, plain, viewed}
use Rattle.lb_kinds.proofs.ViewLaws.{plain-part}
use Rattle.lb_kinds.proofs.view.View.ready_from.Goals as goal

pub returns : goal.returns
returns c =
    let view : viewed c.self.inside.subs.items ≡ c.args.self.now = (cc) in
    c.all_ready.ensures ∙ ap (λ (ms : List Marked). subs_in is_ready (plain ms)) (c.part.ensures ∙ ap (λ (ms : List Marked). take c.args.count (drop c.args.place ms)) c.as_slice.ensures.value) ∙ ap (subs_in is_ready) (plain-part c.args.count c.args.place c.self.inside.subs.items) ∙ ap (λ (v : Viewed). subs_in is_ready (take c.args.count (drop c.args.place v.subs))) view
