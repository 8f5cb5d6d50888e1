use Rattle.std.proofs.Common.{arith}
use Rattle.script_fields.proofs.WordLaws.{word_spelled}
use Rattle.script_fields.proofs.read.hex_bytes.word_of_hex.Goals as goal

pub returns-clause-some : goal.returns-clause-some
returns-clause-some c = (
  omega (arith, c.from_be_bytes.type_inv),
  word_spelled c.args.text.now _ _ _ _ _ _ _ _ c.from_be_bytes.result c.if-text-ne16.false
      (c.in_ok-byte_of.ensures.within, (c.in_ok-byte_of-2.ensures.within, (c.in_ok-byte_of-3.ensures.within, (c.in_ok-byte_of-4.ensures.within, (c.in_ok-byte_of-5.ensures.within, (c.in_ok-byte_of-6.ensures.within, (c.in_ok-byte_of-7.ensures.within, (c.in_ok-byte_of-8.ensures.within, tt))))))))
      c.in_ok-byte_of.ensures.some c.in_ok-byte_of-2.ensures.some c.in_ok-byte_of-3.ensures.some c.in_ok-byte_of-4.ensures.some c.in_ok-byte_of-5.ensures.some c.in_ok-byte_of-6.ensures.some c.in_ok-byte_of-7.ensures.some c.in_ok-byte_of-8.ensures.some
      c.from_be_bytes.ensures,
)
