use Rattle.std.proofs.Common.{◌≡◌, ◌≤◌, ℕ, List, length}
use Rattle.grpc_base.specs.declared.fields.Field.{Field}
use Rattle.h2_hpack.specs.Blocks.{reading_from, block_of}
use Rattle.h2_hpack.specs.Tables.{Table}
use Rattle.h2_hpack.proofs.decoder.read_block.Given as goal

-- the rest of the block, read from here on, gives what the whole block gives
pub record IsOnTheWay (before : Table) (block rest : List ℕ) (fields : List Field) (table : Table) : Type 0 where
  pub most : ℕ
  pub enough : length rest ≤ most
  pub same : reading_from rest most (record { fields = fields; table = table }) ≡ block_of before block

abbrev pub invariant-loop-rest : goal.invariant-loop-rest
invariant-loop-rest l = IsOnTheWay l.initial.table l.fn.block l.rest l.list l.table

abbrev pub decreases-loop-rest : goal.decreases-loop-rest
decreases-loop-rest l = length l.rest
