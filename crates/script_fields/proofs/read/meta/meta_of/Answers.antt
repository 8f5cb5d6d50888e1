use Rattle.std.proofs.Common.{◌≢◌, ℕ, List, [], ◌∷◌, Option, Some, Bor, sym, subst, ◌∙◌}
use Rattle.std.specs.Prelude.{option_map}
use Rattle.std.proofs.lemmas.Slice.Eq.{bytes_eq-Decides}
use Rattle.std.proofs.lemmas.Bool.{true≢false}
use Rattle.script_fields.proofs.MetaLaws.{IsReadMeta, read_more, read_refused, read_whole}
use Rattle.script_fields.proofs.read.meta.meta_of.Goals as goal

pub returns-then-not-branch-clause-none : goal.returns-then-not-branch-clause-none
returns-then-not-branch-clause-none c = λ pairs spelled.
    let other : c.args.text.now ≢ 45 ∷ [] = λ e. true≢false (sym ((bytes_eq-Decides c.args.text.now c.as_slice.result.now).1 (cc (e, c.as_slice.ensures))) ∙ sym c.if-eq.ensures) in
    let is : IsReadMeta c.args.text.now c.loop-rest.meta (Some c.in-Some.items.now) = subst (λ (r : Option (Bor (List ℕ))). IsReadMeta c.args.text.now c.loop-rest.meta (option_map (λ b. b.now) r)) c.in-Some.is c.loop-rest.invariant in
    read_refused c.args.text.now c.loop-rest.meta c.in-Some.items.now _ (option_map (λ (r : Bor (List ℕ)). r.now) c.first_piece.result.1) pairs other is c.first_piece.ensures.pieces (c.in_ok-push_pair.ensures.refused c.if-not-branch.true) spelled

pub loop-rest-preserved : goal.loop-rest-preserved
loop-rest-preserved c =
    let is : IsReadMeta c.args.text.now c.loop-rest.meta (Some c.in-Some.items.now) = subst (λ (r : Option (Bor (List ℕ))). IsReadMeta c.args.text.now c.loop-rest.meta (option_map (λ b. b.now) r)) c.in-Some.is c.loop-rest.invariant in
    read_more c.args.text.now c.loop-rest.meta c.push_pair.new.meta c.in-Some.items.now _ _ is c.first_piece.ensures.pieces (c.in_ok-push_pair.ensures.pushed c.if-not-branch.false) (c.in_ok-push_pair.ensures.kept c.if-not-branch.false)

pub returns-clause-some : goal.returns-clause-some
returns-clause-some c =
    read_whole c.args.text.now c.loop-rest.meta (subst (λ (r : Option (Bor (List ℕ))). IsReadMeta c.args.text.now c.loop-rest.meta (option_map (λ b. b.now) r)) c.in_default.is c.loop-rest.invariant)
