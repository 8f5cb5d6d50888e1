use Rattle.std.proofs.Common.{◌≡◌, ◌++◌, ◌∷◌, ◌∙◌, [], ap, append_assoc, sym, subst, List, ℕ, append-nil}
use Rattle.script_input.specs.Collecting.{IsDecided, Leads}
use Rattle.script_input.proofs.InputLaws.{exit_of}
use Rattle.script_input.proofs.StateLaws.{decided_on, leads_on}
use Rattle.script_input.proofs.collected.Collected.take_piece.Goals as goal

pub returns-in_err-take_line-clause-bad : goal.returns-in_err-take_line-clause-bad
returns-in_err-take_line-clause-bad c =
    let prefix : List ℕ = c.loop-text.invariant.0 in
    let line : List ℕ = c.in-Some.text.now ++ 10 ∷ [] in
    let cut : c.loop-text.rest.now ≡ c.in-Some.text.now ++ 10 ∷ c.in-Some.afterwards.now = c.in-Some.ensures.some.0 in
    let whole : c.args.piece.now ≡ prefix ++ (line ++ c.in-Some.afterwards.now) = c.loop-text.invariant.1 ∙ ap (λ (r : List ℕ). prefix ++ r) (cut ∙ sym (append_assoc c.in-Some.text.now (10 ∷ []) c.in-Some.afterwards.now)) in
    let decided : IsDecided c.args.self.now (prefix ++ (line ++ c.in-Some.afterwards.now)) c.in_err-take_line.field-0.0 =
    decided_on _ _ prefix line c.in-Some.afterwards.now _ c.loop-text.invariant.2 c.in_err-take_line.ensures.bad in
    exit_of c.from_residual.result _ c.in_err-take_line.field-0.0 c.from_residual.ensures.1
    (subst (λ (p : List ℕ). IsDecided c.args.self.now p c.in_err-take_line.field-0.0) (sym whole) decided)

pub loop-text-preserved : goal.loop-text-preserved
loop-text-preserved c =
    let prefix : List ℕ = c.loop-text.invariant.0 in
    let line : List ℕ = c.in-Some.text.now ++ 10 ∷ [] in
    let cut : c.loop-text.rest.now ≡ c.in-Some.text.now ++ 10 ∷ c.in-Some.afterwards.now = c.in-Some.ensures.some.0 in (
      prefix ++ line,
      (c.loop-text.invariant.1 ∙ ap (λ (r : List ℕ). prefix ++ r) (cut ∙ sym (append_assoc c.in-Some.text.now (10 ∷ []) c.in-Some.afterwards.now)) ∙ sym (append_assoc prefix line c.in-Some.afterwards.now)),
      leads_on _ _ _ prefix line c.loop-text.invariant.2 c.in_ok-take_line.ensures.ok,
      c.in_ok-take_line.ensures.ready,
    )

pub returns-in_err-take_prefix-clause-bad : goal.returns-in_err-take_prefix-clause-bad
returns-in_err-take_prefix-clause-bad c =
    let prefix : List ℕ = c.loop-text.invariant.0 in
    let rest : List ℕ = c.loop-text.rest.now in
    let whole : c.args.piece.now ≡ prefix ++ (rest ++ []) = c.loop-text.invariant.1 ∙ ap (λ (r : List ℕ). prefix ++ r) (sym (append-nil rest)) in
    let decided : IsDecided c.args.self.now (prefix ++ (rest ++ [])) c.in_err-take_prefix.field-0.0 =
    decided_on _ _ prefix rest [] _ c.loop-text.invariant.2 c.in_err-take_prefix.ensures.bad in
    exit_of c.from_residual-in_err-take_prefix.result _ c.in_err-take_prefix.field-0.0 c.from_residual-in_err-take_prefix.ensures.1
    (subst (λ (p : List ℕ). IsDecided c.args.self.now p c.in_err-take_prefix.field-0.0) (sym whole) decided)

pub returns-clause-ok : goal.returns-clause-ok
returns-clause-ok c =
    subst (λ (p : List ℕ). Leads c.args.self.now c.take_prefix.new.self p) (sym c.loop-text.invariant.1)
    (leads_on _ _ _ c.loop-text.invariant.0 c.loop-text.rest.now c.loop-text.invariant.2 c.in_ok-take_prefix.ensures.ok)
