use Rattle.std.proofs.Common.{◌∙◌, sym}
use Rattle.h2_frame.proofs.HeaderLaws.{prefix_at_once}
use Rattle.h2_frame.proofs.read.read_prefix.Goals as goal

pub returns-in-len9-up : goal.returns-in-len9-up
returns-in-len9-up c =
    c.read_header.ensures ∙ sym (prefix_at_once c.args.bytes.now c.from_be_bytes-length.result c.from_be_bytes-stream.result c.in-len9-up.len_at_least (λ i. (c.type_inv.bytes i).fits) c.from_be_bytes-length.ensures c.from_be_bytes-stream.ensures)
