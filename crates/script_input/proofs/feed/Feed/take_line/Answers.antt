use Rattle.std.proofs.Common.{◌≡◌, ◌++◌, ◌∙◌, ◌+◌, List, ℕ, refl, subst, sym, true}
use Rattle.script_lines.specs.Lines.{IsRawLine}
use Rattle.script_input.proofs.FeedLaws.{decided_raw, decided_refused, fed_line, reported_for}
use Rattle.script_input.proofs.feed.Feed.take_line.Goals as goal

pub returns-in-Err-clause-bad : goal.returns-in-Err-clause-bad
returns-in-Err-clause-bad g c =
    let joined : c.as_slice.result.now ≡ c.args.self.now.line.items ++ c.args.text.now = c.as_slice.ensures.value ∙ c.in_ok-extend_from_slice.ensures.items in
    decided_raw g.T.Lines.has_taken g.T.Lines.refuses c.args.self.now c.args.lines.now c.args.text.now c.as_slice.result.now c.fault_at.result c.requires joined
    (reported_for c.args.self.now.count _ c.as_slice.result.now true c.in-Err.fault c.fault_at.result refl c.in-Err.ensures.bad c.fault_at.ensures.bad c.fault_at.ensures.no_memory)

pub returns-in-Err-take-clause-bad : goal.returns-in-Err-take-clause-bad
returns-in-Err-take-clause-bad g c =
    let joined : c.as_slice-2.result.now ≡ c.args.self.now.line.items ++ c.args.text.now = c.as_slice-2.ensures.value ∙ c.in_ok-extend_from_slice.ensures.items in
    let raw : IsRawLine (c.args.self.now.count + 1) c.as_slice-2.result.now true =
    subst (λ (t : List ℕ). IsRawLine (c.args.self.now.count + 1) t true) (c.as_slice.ensures.value ∙ sym c.as_slice-2.ensures.value) c.in_default.ensures.ok in
    decided_refused g.T.Lines.has_taken g.T.Lines.refuses c.args.self.now c.args.lines.now c.args.text.now c.as_slice-2.result.now c.in-Err-take.bad c.fault_of.result c.requires joined raw
    c.in-Err-take.ensures.refused c.fault_of.ensures

pub returns-clause-ok : goal.returns-clause-ok
returns-clause-ok g c =
    let joined : c.as_slice-2.result.now ≡ c.args.self.now.line.items ++ c.args.text.now = c.as_slice-2.ensures.value ∙ c.in_ok-extend_from_slice.ensures.items in
    let raw : IsRawLine (c.args.self.now.count + 1) c.as_slice-2.result.now true =
    subst (λ (t : List ℕ). IsRawLine (c.args.self.now.count + 1) t true) (c.as_slice.ensures.value ∙ sym c.as_slice-2.ensures.value) c.in_default.ensures.ok in
    fed_line g.T.Lines.has_taken c.args.self.now _ c.args.lines.now c.take.new.self c.args.text.now c.as_slice-2.result.now c.requires joined raw c.in_default-take.ensures.taken refl c.clear.ensures.items
