use Rattle.h2_hpack.proofs.SizeLemmas.{update_is_read}
use Rattle.h2_hpack.proofs.laws.encoding_is_read_after_an_update.Goals as goal

pub returns-clause-read : goal.returns-clause-read
returns-clause-read c = update_is_read
