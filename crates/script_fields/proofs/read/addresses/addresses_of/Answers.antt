use Rattle.std.proofs.Common.{◌≢◌, ℕ, List, [], ◌∷◌, Option, Some, Bor, sym, subst, ◌∙◌, arith}
use Rattle.std.specs.Prelude.{option_map}
use Rattle.std.proofs.lemmas.Slice.Eq.{bytes_eq-Decides}
use Rattle.std.proofs.lemmas.Bool.{true≢false}
use Rattle.script_fields.proofs.ListedLaws.{IsReadList, list_few, list_many, list_more, list_refused}
use Rattle.script_fields.proofs.read.addresses.addresses_of.Goals as goal

pub returns-in_default-address_of-clause-bad : goal.returns-in_default-address_of-clause-bad
returns-in_default-address_of-clause-bad c = λ addresses spelled.
    let other : c.args.text.now ≢ 45 ∷ [] = λ e. true≢false (sym ((bytes_eq-Decides c.args.text.now c.as_slice.result.now).1 (cc (e, c.as_slice.ensures))) ∙ sym c.if-eq.ensures) in
    let is : IsReadList c.args.text.now c.loop-rest.list c.loop-rest.count (Some c.in-Some.items.now) = subst (λ (r : Option (Bor (List ℕ))). IsReadList c.args.text.now c.loop-rest.list c.loop-rest.count (option_map (λ b. b.now) r)) c.in-Some.is c.loop-rest.invariant in
    list_refused c.args.text.now c.loop-rest.list c.loop-rest.count c.in-Some.items.now _ (option_map (λ (r : Bor (List ℕ)). r.now) c.first_piece.result.1) addresses other is c.first_piece.ensures.pieces c.in_default-address_of.ensures.none spelled

pub loop-rest-preserved : goal.loop-rest-preserved
loop-rest-preserved c =
    let is : IsReadList c.args.text.now c.loop-rest.list c.loop-rest.count (Some c.in-Some.items.now) = subst (λ (r : Option (Bor (List ℕ))). IsReadList c.args.text.now c.loop-rest.list c.loop-rest.count (option_map (λ b. b.now) r)) c.in-Some.is c.loop-rest.invariant in
    list_more c.args.text.now c.loop-rest.list c.add-count.new.list c.loop-rest.count c.add-count.result c.in-Some.items.now _ _ c.in-Some-address_of.address is c.first_piece.ensures.pieces c.in-Some-address_of.ensures.some.0 c.in-Some-address_of.ensures.some.1 c.add-count.ensures.few c.add-count.ensures.many

pub returns-then-count-gt-ADDRESSES-clause-bad : goal.returns-then-count-gt-ADDRESSES-clause-bad
returns-then-count-gt-ADDRESSES-clause-bad c =
    list_many c.args.text.now c.loop-rest.list c.loop-rest.count (subst (λ (r : Option (Bor (List ℕ))). IsReadList c.args.text.now c.loop-rest.list c.loop-rest.count (option_map (λ b. b.now) r)) c.in_default.is c.loop-rest.invariant) (omega (arith, c.if-count-gt-ADDRESSES.true))

pub returns-clause-ok : goal.returns-clause-ok
returns-clause-ok c =
    list_few c.args.text.now c.loop-rest.list c.loop-rest.count (subst (λ (r : Option (Bor (List ℕ))). IsReadList c.args.text.now c.loop-rest.list c.loop-rest.count (option_map (λ b. b.now) r)) c.in_default.is c.loop-rest.invariant) (omega (arith, c.if-count-gt-ADDRESSES.false))
