use Rattle.std.proofs.Common.{◌≡◌, take, Some}
use Rattle.std.specs.Prelude.{flat_map}
use Rattle.h2_hpack.specs.Walk.{halves, walk}
use Rattle.h2_hpack.proofs.huffman.decode.Given as goal

-- where the bytes so far lead, after what stood there before
abbrev pub invariant-loop-byte : goal.invariant-loop-byte
invariant-loop-byte l = walk (flat_map halves (take l.byte-index l.bytes)) (l.fn.symbols.items, 0) ≡ Some (l.symbols.items, l.state)
