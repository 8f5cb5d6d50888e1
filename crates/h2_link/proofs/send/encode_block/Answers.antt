use Rattle.std.proofs.Common.{ℕ, List, ◌++◌, ◌∙◌, length, ap, arith}
use Rattle.h2_hpack.specs.Encoding.{block_bytes}
use Rattle.h2_hpack.proofs.SizeLemmas.{encoding_is_short}
use Rattle.h2_link.proofs.send.encode_block.Goals as goal

pub returns-clause-fits : goal.returns-clause-fits
returns-clause-fits c =
    let short = (encoding_is_short c.args.fields.now c.requires).most in
    let same = ap length (c.in_ok-append_fields.ensures ∙ ap (λ (l : List ℕ). l ++ block_bytes c.args.fields.now) c.clear.ensures.items) in omega (arith, short, same)
