use Rattle.std.proofs.Common.{sym, ◌∙◌}
use Rattle.h2_hpack.proofs.EncodeLemmas.{fixed_written}
use Rattle.h2_hpack.proofs.encoder.fixed_bytes.Goals as goal

pub returns-then-is_field : goal.returns-then-is_field
returns-then-is_field c =
    let fixed = c.in_ok-fixed.fixed in
    fixed_written c.args.field.now fixed.name.now fixed.value.now fixed.bytes.now c.in_ok-fixed.ensures (sym c.is_field.ensures ∙ c.if-is_field.true)
