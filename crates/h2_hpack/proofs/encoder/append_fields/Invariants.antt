use Rattle.std.proofs.Common.{◌≡◌, ◌++◌, take}
use Rattle.h2_hpack.specs.Encoding.{block_bytes}
use Rattle.h2_hpack.proofs.encoder.append_fields.Given as goal

-- the fields so far are written
abbrev pub invariant-loop-field : goal.invariant-loop-field
invariant-loop-field l = l.block.items ≡ l.fn.block.items ++ block_bytes (take l.field-index l.field-items)
