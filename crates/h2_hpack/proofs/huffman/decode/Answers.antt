use Rattle.std.proofs.Common.{Err, ap, arith, sym, ◌∙◌}
use Rattle.h2_hpack.proofs.StateLemmas.{walk-all, walk-bad, walk-byte}
use Rattle.h2_hpack.proofs.huffman.decode.Goals as goal

pub returns-in-Err-BadHuffman : goal.returns-in-Err-BadHuffman
returns-in-Err-BadHuffman c =
    sym (walk-bad c.args.bytes.now c.args.symbols.now.items c.loop-byte.byte-index (c.loop-byte.symbols.items, c.loop-byte.state) c.loop-byte-test.true c.loop-byte.invariant (c.in-Err-BadHuffman.ensures.bad (ap Err c.in-Err-BadHuffman.field-0-is)))

pub loop-byte-preserved : goal.loop-byte-preserved
loop-byte-preserved c =
    walk-byte c.args.bytes.now c.args.symbols.now.items c.loop-byte.byte-index (c.loop-byte.symbols.items, c.loop-byte.state) c.loop-byte-test.true c.loop-byte.invariant ∙ c.in-Ok.ensures.on

pub returns : goal.returns
returns c =
    sym (walk-all c.args.bytes.now c.args.symbols.now.items c.loop-byte.byte-index (c.loop-byte.symbols.items, c.loop-byte.state) (omega (arith, c.loop-byte-test.false)) c.loop-byte.invariant)
