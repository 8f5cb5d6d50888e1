use Rattle.std.proofs.Common.{◌≡◌, ◌∙◌, ap, sym}
use Rattle.lb_policy.specs.Table.{state_of_tiers}
use Rattle.lb_policy.proofs.TierLaws.{tiers-last}
use Rattle.lb_priority.specs.Seen.{Tiered}
use Rattle.lb_priority.proofs.priority.Priority.state_of_tiers.Goals as goal

pub returns : goal.returns
returns c =
    let view : record { width = c.self.inside.width; view = c.self.inside.view; turns = c.self.inside.turns } ≡ c.args.self.now = (cc) in
    c.lasting_state.ensures ∙ sym (tiers-last c.self.inside.width c.self.inside.view.failed c.self.inside.view.subs c.self.invariant.0) ∙ ap (λ (p : Tiered). state_of_tiers p.width p.view.failed p.view.subs) view
