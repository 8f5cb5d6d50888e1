use Rattle.std.proofs.Common.{◌≡◌, ℕ, ◌∙◌, Some, None, take, drop, ap}
use Rattle.std.specs.List.{position_from}
use Rattle.lb_policy.specs.declared.seen.SubSeen.{SubSeen}
use Rattle.lb_policy.specs.Table.{is_ready, subs_in, choices_in_tiers}
use Rattle.lb_priority.specs.Seen.{Tiered}
use Rattle.lb_priority.proofs.TierLaws.{choices-some, choices-none}
use Rattle.lb_priority.proofs.priority.Priority.choices.Goals as goal

pub returns-in-Some : goal.returns-in-Some
returns-in-Some c =
    let view : record { width = c.self.inside.width; view = c.self.inside.view; turns = c.self.inside.turns } ≡ c.args.self.now = (cc) in
    let at : position_from (λ (s : SubSeen). is_ready s.state) 0 c.self.inside.view.subs ≡ Some c.in-Some.place = (cc) in
    c.ready_from.ensures ∙ ap (λ (n : ℕ). subs_in is_ready (take c.self.inside.width (drop n c.self.inside.view.subs))) c.start_of_tier.ensures.start ∙ choices-some c.self.inside.width c.in-Some.place c.self.inside.view.subs c.self.invariant.0 at ∙ ap (λ (p : Tiered). choices_in_tiers p.width p.view.subs) view

pub returns-in-None : goal.returns-in-None
returns-in-None c =
    let view : record { width = c.self.inside.width; view = c.self.inside.view; turns = c.self.inside.turns } ≡ c.args.self.now = (cc) in
    let at : position_from (λ (s : SubSeen). is_ready s.state) 0 c.self.inside.view.subs ≡ None = (cc) in
    c.new.ensures ∙ choices-none c.self.inside.width c.self.inside.view.subs c.self.invariant.0 at ∙ ap (λ (p : Tiered). choices_in_tiers p.width p.view.subs) view
