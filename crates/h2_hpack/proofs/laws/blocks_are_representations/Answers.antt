use Rattle.h2_hpack.proofs.ExactRuns.{blocks_are_representations}
use Rattle.h2_hpack.proofs.laws.blocks_are_representations.Goals as goal

pub returns : goal.returns
returns c = blocks_are_representations
