use Rattle.std.proofs.Common.{◌≡◌, ◌++◌, ◌∷◌, ◌∙◌, [], ap, append_assoc, sym, subst, List, ℕ, append-nil, refl}
use Rattle.script_input.specs.Feeding.{IsDecidedBy, LeadsBy}
use Rattle.script_input.proofs.FeedLaws.{decided_prefix, decided_on, fed_prefix, leads_on}
use Rattle.script_input.proofs.InputLaws.{exit_of}
use Rattle.script_input.proofs.feed.Feed.take_piece.Goals as goal

pub returns-in_err-take_line-clause-bad : goal.returns-in_err-take_line-clause-bad
returns-in_err-take_line-clause-bad g c =
    let prefix : List ℕ = c.loop-text.invariant.0 in
    let line : List ℕ = c.in-Some.text.now ++ 10 ∷ [] in
    let cut : c.loop-text.rest.now ≡ c.in-Some.text.now ++ 10 ∷ c.in-Some.afterwards.now = c.in-Some.ensures.some.0 in
    let whole : c.args.piece.now ≡ prefix ++ (line ++ c.in-Some.afterwards.now) = c.loop-text.invariant.1 ∙ ap (λ (r : List ℕ). prefix ++ r) (cut ∙ sym (append_assoc c.in-Some.text.now (10 ∷ []) c.in-Some.afterwards.now)) in
    let decided : IsDecidedBy g.T.Lines.has_taken g.T.Lines.refuses c.args.self.now c.args.lines.now (prefix ++ (line ++ c.in-Some.afterwards.now)) c.in_err-take_line.field-0.0 =
    decided_on g.T.Lines.has_taken g.T.Lines.refuses _ c.loop-text.self _ c.loop-text.lines prefix line c.in-Some.afterwards.now _ c.loop-text.invariant.2 c.in_err-take_line.ensures.bad in
    exit_of c.from_residual.result _ c.in_err-take_line.field-0.0 c.from_residual.ensures.1
    (subst (λ (p : List ℕ). IsDecidedBy g.T.Lines.has_taken g.T.Lines.refuses c.args.self.now c.args.lines.now p c.in_err-take_line.field-0.0) (sym whole) decided)

pub loop-text-preserved : goal.loop-text-preserved
loop-text-preserved g c =
    let prefix : List ℕ = c.loop-text.invariant.0 in
    let line : List ℕ = c.in-Some.text.now ++ 10 ∷ [] in
    let cut : c.loop-text.rest.now ≡ c.in-Some.text.now ++ 10 ∷ c.in-Some.afterwards.now = c.in-Some.ensures.some.0 in (
      prefix ++ line,
      (c.loop-text.invariant.1 ∙ ap (λ (r : List ℕ). prefix ++ r) (cut ∙ sym (append_assoc c.in-Some.text.now (10 ∷ []) c.in-Some.afterwards.now)) ∙ sym (append_assoc prefix line c.in-Some.afterwards.now)),
      leads_on g.T.Lines.has_taken c.args.self.now c.loop-text.self c.take_line.new.self c.args.lines.now c.loop-text.lines c.take_line.new.lines prefix line c.loop-text.invariant.2 c.in_ok-take_line.ensures.ok,
    )

pub returns-in_err-take_prefix-clause-bad : goal.returns-in_err-take_prefix-clause-bad
returns-in_err-take_prefix-clause-bad g c =
    let prefix : List ℕ = c.loop-text.invariant.0 in
    let rest : List ℕ = c.loop-text.rest.now in
    let whole : c.args.piece.now ≡ prefix ++ (rest ++ []) = c.loop-text.invariant.1 ∙ ap (λ (r : List ℕ). prefix ++ r) (sym (append-nil rest)) in
    let here : IsDecidedBy g.T.Lines.has_taken g.T.Lines.refuses c.loop-text.self c.loop-text.lines rest c.in_err-take_prefix.field-0.0 =
    decided_prefix g.T.Lines.has_taken g.T.Lines.refuses c.loop-text.self c.loop-text.lines rest c.in_err-take_prefix.field-0.0 c.in_default.ensures.none c.in_err-take_prefix.ensures.bad in
    let decided : IsDecidedBy g.T.Lines.has_taken g.T.Lines.refuses c.args.self.now c.args.lines.now (prefix ++ (rest ++ [])) c.in_err-take_prefix.field-0.0 =
    decided_on g.T.Lines.has_taken g.T.Lines.refuses _ c.loop-text.self _ c.loop-text.lines prefix rest [] _ c.loop-text.invariant.2 here in
    exit_of c.from_residual-in_err-take_prefix.result _ c.in_err-take_prefix.field-0.0 c.from_residual-in_err-take_prefix.ensures.1
    (subst (λ (p : List ℕ). IsDecidedBy g.T.Lines.has_taken g.T.Lines.refuses c.args.self.now c.args.lines.now p c.in_err-take_prefix.field-0.0) (sym whole) decided)

pub returns-clause-ok : goal.returns-clause-ok
returns-clause-ok g c =
    let last : LeadsBy g.T.Lines.has_taken c.loop-text.self c.loop-text.lines c.take_prefix.new.self c.loop-text.lines c.loop-text.rest.now =
    fed_prefix g.T.Lines.has_taken c.loop-text.self c.take_prefix.new.self c.loop-text.lines c.loop-text.lines c.loop-text.rest.now c.in_default.ensures.none
    c.in_ok-take_prefix.ensures.line c.in_ok-take_prefix.ensures.short c.in_ok-take_prefix.ensures.count refl in
    subst (λ (p : List ℕ). LeadsBy g.T.Lines.has_taken c.args.self.now c.args.lines.now c.take_prefix.new.self c.loop-text.lines p) (sym c.loop-text.invariant.1)
    (leads_on g.T.Lines.has_taken c.args.self.now c.loop-text.self c.take_prefix.new.self c.args.lines.now c.loop-text.lines c.loop-text.lines c.loop-text.invariant.0 c.loop-text.rest.now c.loop-text.invariant.2 last)
