use Rattle.std.proofs.Common.{◌≡◌, ◌∙◌, not, List, map, ap, sym, subst}
use Rattle.std.specs.List.{list_any}
use Rattle.lb_policy.specs.Table.{has_state, is_ready, state_by, state_of_view, IsWithoutRepeats}
use Rattle.lb_policy.specs.Steps.{failed_in}
use Rattle.lb_kinds.specs.declared.marked.Marked.{Marked}
use Rattle.lb_kinds.specs.Seen.{Viewed, plain, failed_of, viewed, marked_by}
use Rattle.lb_kinds.proofs.ViewLaws.{kept, once-marked, set-view}
use Rattle.lb_kinds.proofs.view.View.set.Goals as goal

pub invariant_of-self : goal.invariant_of-self
invariant_of-self c =
    let items : c.mark_all-marked.result.items ≡ map (marked_by (failed_of c.self.inside.subs.items)) c.args.subs.now = (cc) in
    kept c.mark_all-marked.result.items c.state_of-self-inside.result c.lasting_state_of-self-inside.result (c.state_of-self-inside.ensures ∙ ap (λ (ms : List Marked). state_of_view (plain ms)) c.as_slice-2.ensures.value) (c.lasting_state_of-self-inside.ensures ∙ ap (λ (ms : List Marked). state_by (has_state is_ready (plain ms)) (list_any (λ (m : Marked). not m.failed) ms)) c.as_slice-3.ensures.value) (subst (λ (ms : List Marked). IsWithoutRepeats (plain ms)) (sym items) (once-marked (failed_of c.self.inside.subs.items) c.args.subs.now c.requires.no_repeats))

pub returns : goal.returns
returns c =
    let items : c.mark_all-marked.result.items ≡ map (marked_by (failed_of c.self.inside.subs.items)) c.args.subs.now = (cc) in
    let view : viewed c.self.inside.subs.items ≡ c.args.self.now = (cc) in
    ap viewed items ∙ set-view (failed_of c.self.inside.subs.items) c.args.subs.now ∙ ap (λ (v : Viewed). record { subs = c.args.subs.now; failed = failed_in v.failed c.args.subs.now }) view
