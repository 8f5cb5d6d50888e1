use Rattle.h2_hpack.proofs.RoundTrip.{block_reads}
use Rattle.h2_hpack.proofs.laws.encoding_is_read.Goals as goal

pub returns : goal.returns
returns c = block_reads
