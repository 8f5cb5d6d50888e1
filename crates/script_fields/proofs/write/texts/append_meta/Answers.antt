use Rattle.std.proofs.Common.{arith}
use Rattle.std.proofs.lemmas.Grind.{common_steps}
use Rattle.script_fields.proofs.JoinedLaws.{meta_parts}
use Rattle.script_fields.proofs.write.texts.append_meta.Goals as goal

pub loop-pair-init : goal.loop-pair-init
loop-pair-init c =
    let h = c.in_ok-append_pair.ensures in
    let i = c.first-item.is in
    let parts = meta_parts c.args.pairs.now c.first-item.result c.in-len1-up.len_at_least in
    grind (arith, common_steps, parts, h, i)
