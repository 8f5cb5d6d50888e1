use Rattle.std.specs.Prelude.{Ok}
use Rattle.h2_hpack.specs.Tables.{new_table}
use Rattle.h2_hpack.proofs.BlockLemmas.{one_block_more}
use Rattle.h2_hpack.proofs.laws.blocks_are_read_in_turn.Goals as goal

pub returns : goal.returns
returns c = λ blocks block. one_block_more blocks block (Ok new_table)
