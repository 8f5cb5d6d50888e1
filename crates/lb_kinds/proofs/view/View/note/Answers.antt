use Rattle.std.proofs.Common.{◌≡◌, ◌∙◌, not, List, length, map, ap, sym, subst}
use Rattle.std.specs.List.{list_any, refill}
use Rattle.lb_policy.specs.Table.{has_state, is_ready, state_by, state_of_view, IsWithoutRepeats}
use Rattle.lb_policy.specs.Steps.{noted_sub, failed_after}
use Rattle.lb_kinds.specs.declared.marked.Marked.{Marked}
use Rattle.lb_kinds.specs.Seen.{Viewed, plain, viewed, noted_mark}
use Rattle.lb_kinds.proofs.ViewLaws.{kept, once-after, note-view, refilled}
use Rattle.lb_kinds.proofs.view.View.note.Goals as goal

pub invariant_of-self : goal.invariant_of-self
invariant_of-self c =
    let back : refill (length c.self.inside.subs.items) c.self.inside.subs.items c.note_in.new.subs ≡ map (noted_mark c.args.sub c.args.state) c.self.inside.subs.items = ap (refill (length c.self.inside.subs.items) c.self.inside.subs.items) (c.note_in.ensures ∙ ap (map (noted_mark c.args.sub c.args.state)) c.as_mut_slice.ensures.value) ∙ refilled (noted_mark c.args.sub c.args.state) c.self.inside.subs.items in
    kept _ c.state_of-self-inside.result c.lasting_state_of-self-inside.result (c.state_of-self-inside.ensures ∙ ap (λ (ms : List Marked). state_of_view (plain ms)) c.as_slice.ensures.value) (c.lasting_state_of-self-inside.ensures ∙ ap (λ (ms : List Marked). state_by (has_state is_ready (plain ms)) (list_any (λ (m : Marked). not m.failed) ms)) c.as_slice-2.ensures.value) (subst (λ (ms : List Marked). IsWithoutRepeats (plain ms)) (sym back) (once-after c.args.sub c.args.state c.self.inside.subs.items c.self.invariant.no_repeats))

pub returns : goal.returns
returns c =
    let back : refill (length c.self.inside.subs.items) c.self.inside.subs.items c.note_in.new.subs ≡ map (noted_mark c.args.sub c.args.state) c.self.inside.subs.items = ap (refill (length c.self.inside.subs.items) c.self.inside.subs.items) (c.note_in.ensures ∙ ap (map (noted_mark c.args.sub c.args.state)) c.as_mut_slice.ensures.value) ∙ refilled (noted_mark c.args.sub c.args.state) c.self.inside.subs.items in
    let view : viewed c.self.inside.subs.items ≡ c.args.self.now = (cc) in
    ap viewed back ∙ note-view c.args.sub c.args.state c.self.inside.subs.items c.self.invariant.no_repeats ∙ ap (λ (v : Viewed). record { subs = map (noted_sub c.args.sub c.args.state) v.subs; failed = failed_after c.args.sub c.args.state v.failed v.subs }) view
