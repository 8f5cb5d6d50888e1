use Rattle.h2_hpack.proofs.SizeLemmas.{encoding_is_short}
use Rattle.h2_hpack.proofs.laws.encoding_fits_a_frame.Goals as goal

pub returns : goal.returns
returns c = encoding_is_short
