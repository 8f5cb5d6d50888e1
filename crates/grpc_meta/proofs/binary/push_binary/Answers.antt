use Rattle.std.proofs.Common.{◌≡◌, ◌++◌, ◌∙◌, ap, List, take, arith}
use Rattle.std.specs.List.{flat_map}
use Rattle.std.proofs.lemmas.List.{take_all}
use Rattle.grpc_base.specs.declared.fields.Field.{Field}
use Rattle.grpc_meta.specs.Base64.{bytes_of_base64}
use Rattle.grpc_meta.specs.ResponseFields.{between_commas, pair_if_read}
use Rattle.grpc_meta.proofs.BinaryLaws.{pairs_of_texts}
use Rattle.grpc_meta.proofs.binary.push_binary.Goals as goal

-- once each text is read, the whole value is
pub returns : goal.returns
returns c =
    let whole : take c.loop-text.text-index c.deref-text-items.result.now ≡ c.in_ok-texts.texts.items =
    take_all _ _ c.loop-text-test.false ∙ c.deref-text-items.ensures.value in
    c.loop-text.invariant ∙ ap (λ (ps : List Field). c.args.pairs.now.items ++ ps) (
    ap (flat_map (λ text. pair_if_read c.args.field.now.name (bytes_of_base64 text.now))) whole
    ∙ pairs_of_texts (λ x. x.now) _ c.args.field.now.value _ (c.in_ok-texts.ensures ∙ ap between_commas c.as_slice.ensures) (omega arith))
