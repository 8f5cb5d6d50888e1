use Rattle.h2_hpack.proofs.CodeLemmas.{free, whole, counted, ends_with_ones}
use Rattle.h2_hpack.proofs.laws.huffman_code_is_whole.Goals as goal

pub returns : goal.returns
returns c = record { counts = counted; last = ends_with_ones; free = free; complete = whole }
