use Rattle.std.proofs.Common.{◌≡◌, ◌++◌, length}
use Rattle.script_fields.specs.Spelling.{hex_digits}
use Rattle.script_fields.specs.Values.{IsBytes}
use Rattle.script_fields.proofs.read.hex_bytes.bytes_of.Given as goal

abbrev pub invariant-loop-rest : goal.invariant-loop-rest
invariant-loop-rest l = IsBytes l.bytes.items × (l.fn.text ≡ hex_digits l.bytes.items ++ l.rest)

abbrev pub decreases-loop-rest : goal.decreases-loop-rest
decreases-loop-rest l = length l.rest
