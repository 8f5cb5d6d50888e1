use Rattle.std.proofs.Common.{◌≡◌, ◌++◌, subst}
use Rattle.std.specs.Prelude.{OnOk}
use Rattle.h2_hpack.proofs.EncodeLemmas.{Matches, matched, pair_written, name_written, nothing_written}
use Rattle.h2_hpack.proofs.encoder.put_field.Goals as goal

pub returns-in-Pair : goal.returns-in-Pair
returns-in-Pair c =
    let f = c.args.field.now in
    let is = matched f c.as_slice-name.result.now c.as_slice-value.result.now c.static_match.result c.as_slice-name.ensures c.as_slice-value.ensures c.static_match.ensures in
    subst (λ x. OnOk c.put_integer.result (c.put_integer.new.out.items ≡ c.args.block.now.items ++ x)) (pair_written f c.in-Pair.index (subst (Matches f) c.in-Pair.is is)) c.put_integer.ensures

pub returns-in-Name : goal.returns-in-Name
returns-in-Name c =
    let f = c.args.field.now in
    let is = matched f c.as_slice-name.result.now c.as_slice-value.result.now c.static_match.result c.as_slice-name.ensures c.as_slice-value.ensures c.static_match.ensures in
    subst (λ x. OnOk c.put_named.result (c.put_named.new.block.items ≡ c.args.block.now.items ++ x)) (name_written f c.in-Name.index c.as_slice-value.result.now c.as_slice-value.ensures (subst (Matches f) c.in-Name.is is)) c.put_named.ensures

pub returns-in-Nothing : goal.returns-in-Nothing
returns-in-Nothing c =
    let f = c.args.field.now in
    let is = matched f c.as_slice-name.result.now c.as_slice-value.result.now c.static_match.result c.as_slice-name.ensures c.as_slice-value.ensures c.static_match.ensures in
    subst (λ x. OnOk c.put_spelled.result (c.put_spelled.new.block.items ≡ c.args.block.now.items ++ x)) (nothing_written f c.as_slice-name.result.now c.as_slice-value.result.now c.as_slice-name.ensures c.as_slice-value.ensures (subst (Matches f) c.in-Nothing.is is)) c.put_spelled.ensures
