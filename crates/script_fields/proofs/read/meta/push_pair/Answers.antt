use Rattle.std.proofs.Common.{◌≡◌, ℕ, List, ap, subst, sym, Err, ◌∙◌}
use Rattle.grpc_base.specs.Metadata.{IsMetaName}
use Rattle.script_fields.specs.Spelling.{hex_digits}
use Rattle.script_fields.specs.Values.{IsBytes}
use Rattle.script_fields.proofs.MetaLaws.{pair_parts, refused_long, refused_value, value_same}
use Rattle.script_fields.proofs.read.meta.push_pair.Goals as goal

pub returns-in_default-2-clause-refused : goal.returns-in_default-2-clause-refused
returns-in_default-2-clause-refused c = λ kept f is bytes spelled room.
    let none : (v : List ℕ) → IsBytes v → c.in-Some.digits.now ≡ hex_digits v → ⊥ = (rw c.in_default-2.is at c.in_ok-value.ensures.none) in
    none f.value bytes (pair_parts c.args.item.now _ _ f c.in-Some.ensures.some.0 c.in-Some.ensures.some.1 is spelled).1

pub returns-in-Err-BadName-clause-refused : goal.returns-in-Err-BadName-clause-refused
returns-in-Err-BadName-clause-refused c = λ kept f is bytes spelled room.
    let both : (c.in-Some.name.now ≡ f.name) × (c.in-Some.digits.now ≡ hex_digits f.value) = pair_parts c.args.item.now _ _ f c.in-Some.ensures.some.0 c.in-Some.ensures.some.1 is spelled in
    c.push.ensures.bad_name.0 (c.in-Err-BadName.is ∙ ap Err c.in-Err-BadName.field-0-is) (subst IsMetaName (sym both.0) is.name_is)

pub returns-in-Err-BadValue-clause-refused : goal.returns-in-Err-BadValue-clause-refused
returns-in-Err-BadValue-clause-refused c = λ kept f is bytes spelled room.
    let got : IsBytes c.in-Some-2.value.items × (c.in-Some.digits.now ≡ hex_digits c.in-Some-2.value.items) = (rw c.in-Some-2.is at c.in_ok-value.ensures.some) in
    let both : (c.in-Some.name.now ≡ f.name) × (c.in-Some-2.value.items ≡ f.value) = value_same c.args.item.now _ _ _ f c.in-Some.ensures.some.0 c.in-Some.ensures.some.1 is bytes spelled got.0 got.1 in
    refused_value c.in-Some.name.now c.as_slice.result.now f both.0 (c.as_slice.ensures.value ∙ both.1) is (c.push.ensures.bad_value.0 (c.in-Err-BadValue.is ∙ ap Err c.in-Err-BadValue.field-0-is)).1

pub returns-clause-refused : goal.returns-clause-refused
returns-clause-refused c = λ kept f is bytes spelled room.
    let got : IsBytes c.in-Some-2.value.items × (c.in-Some.digits.now ≡ hex_digits c.in-Some-2.value.items) = (rw c.in-Some-2.is at c.in_ok-value.ensures.some) in
    let both : (c.in-Some.name.now ≡ f.name) × (c.in-Some-2.value.items ≡ f.value) = value_same c.args.item.now _ _ _ f c.in-Some.ensures.some.0 c.in-Some.ensures.some.1 is bytes spelled got.0 got.1 in
    refused_long c.in-Some.name.now c.as_slice.result.now c.args.meta.now f both.0 (c.as_slice.ensures.value ∙ both.1) (c.push.ensures.too_long.0 (c.in-Err-TooLong.is ∙ ap Err c.in-Err-TooLong.field-0-is)).2 room
