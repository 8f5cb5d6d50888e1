use Rattle.std.proofs.Common.{◌≡◌, ℕ, ◌∙◌, ◌+◌, Some, None, take, ap}
use Rattle.std.specs.List.{position_from}
use Rattle.lb_policy.specs.Table.{is_starting, subs_in, upholds_tier, tiers_to_wish}
use Rattle.lb_priority.specs.Seen.{Tiered}
use Rattle.lb_priority.proofs.TierLaws.{wish-some, wish-none}
use Rattle.lb_priority.proofs.priority.Priority.starting.Goals as goal

pub returns-in-Some : goal.returns-in-Some
returns-in-Some c =
    let view : record { width = c.self.inside.width; view = c.self.inside.view; turns = c.self.inside.turns } ≡ c.args.self.now = (cc) in
    let at : position_from (upholds_tier c.self.inside.view.failed) 0 c.self.inside.view.subs ≡ Some c.in-Some.place = (cc) in
    c.starting_of_first.ensures ∙ ap (λ (n : ℕ). subs_in is_starting (take (n + c.self.inside.width) c.self.inside.view.subs)) c.start_of_tier.ensures.start ∙ ap (subs_in is_starting) (wish-some c.self.inside.width c.in-Some.place c.self.inside.view.failed c.self.inside.view.subs c.self.invariant.0 at) ∙ ap (λ (p : Tiered). subs_in is_starting (tiers_to_wish p.width p.view.failed p.view.subs)) view

pub returns-in-None : goal.returns-in-None
returns-in-None c =
    let view : record { width = c.self.inside.width; view = c.self.inside.view; turns = c.self.inside.turns } ≡ c.args.self.now = (cc) in
    let at : position_from (upholds_tier c.self.inside.view.failed) 0 c.self.inside.view.subs ≡ None = (cc) in
    c.all_starting.ensures ∙ ap (subs_in is_starting) (wish-none c.self.inside.width c.self.inside.view.failed c.self.inside.view.subs c.self.invariant.0 at) ∙ ap (λ (p : Tiered). subs_in is_starting (tiers_to_wish p.width p.view.failed p.view.subs)) view
