use Rattle.std.proofs.Common.{arith}
use Rattle.std.proofs.lemmas.Grind.{common_steps}
use Rattle.script_fields.proofs.JoinedLaws.{addresses_parts}
use Rattle.script_fields.proofs.write.texts.append_addresses.Goals as goal

pub loop-address-init : goal.loop-address-init
loop-address-init c =
    let parts = addresses_parts c.args.addresses.now (record { ip = 0; port = 0 }) c.in-len1-up.len_at_least in
    grind (arith, common_steps, parts)
