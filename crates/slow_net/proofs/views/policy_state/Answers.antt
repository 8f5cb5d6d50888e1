use Rattle.std.proofs.Common.{◌≡◌, ◌∙◌, ap}
use Rattle.session_actions.specs.Policies.{width_of}
use Rattle.slow_net.specs.Parts.{view_in}
use Rattle.slow_net.proofs.ViewLaws.{state_same}
use Rattle.slow_net.proofs.views.policy_state.Goals as goal

pub returns : goal.returns
returns c =
    let g = c.args.policy.now in
    let s = c.args.seen.now in
    let k = g.generation.kind in
    let width : c.width_of-width.result ≡ width_of k s.setup.policies = c.width_of-width.ensures ∙ ap (width_of k) c.as_slice.ensures in
    let view : c.as_slice-5.result.now ≡ view_in g.addresses s.subs =
    c.as_slice-5.ensures.value
    ∙ (c.in_ok-view.ensures
    ∙ (ap (λ xs. view_in xs c.as_slice-3.result.now) c.as_slice-2.ensures ∙ ap (view_in g.addresses) c.as_slice-3.ensures)) in
    state_same k c.width_of-width.result (width_of k s.setup.policies) c.as_slice-4.result.now g.failed
    c.as_slice-5.result.now (view_in g.addresses s.subs) c.state_of_kind.result width c.as_slice-4.ensures view c.state_of_kind.ensures
