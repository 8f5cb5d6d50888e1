use Rattle.std.proofs.Common.{◌≡◌, ◌∙◌, not, ◌||◌, ap}
use Rattle.std.specs.List.{position_from}
use Rattle.lb_policy.specs.Table.{is_ready, upholds_tier}
use Rattle.lb_kinds.specs.declared.marked.Marked.{Marked}
use Rattle.lb_kinds.specs.Seen.{Viewed, viewed}
use Rattle.lb_kinds.proofs.ViewLaws.{upholding-place}
use Rattle.lb_kinds.proofs.view.View.place_of_upholding.Goals as goal

pub returns-clause-place : goal.returns-clause-place
returns-clause-place c =
    let view : viewed c.self.inside.subs.items ≡ c.args.self.now = (cc) in
    c.place_of_upholding.ensures.place ∙ ap (position_from (λ (m : Marked). is_ready m.seen.state || not m.failed) 0) c.as_slice.ensures.value ∙ upholding-place c.self.inside.subs.items c.self.invariant.no_repeats ∙ ap (λ (v : Viewed). position_from (upholds_tier v.failed) 0 v.subs) view
