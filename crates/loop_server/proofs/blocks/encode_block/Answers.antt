use Rattle.std.proofs.Common.{length, ap, arith}
use Rattle.h2_hpack.proofs.SizeLemmas.{encoding_is_short}
use Rattle.loop_server.proofs.blocks.encode_block.Goals as goal

pub returns-clause-fits : goal.returns-clause-fits
returns-clause-fits c =
    let short = (encoding_is_short c.args.fields.now c.requires).most in
    let same = ap length c.in_ok-block.ensures in omega (arith, short, same)
