use Rattle.h2_hpack.proofs.HuffmanLaws.{symbols_of-sound, symbols_of-complete}
use Rattle.h2_hpack.proofs.laws.huffman_text_is_exact.Goals as goal

pub returns : goal.returns
returns c = λ bytes symbols. (symbols_of-sound bytes symbols, symbols_of-complete bytes symbols)
