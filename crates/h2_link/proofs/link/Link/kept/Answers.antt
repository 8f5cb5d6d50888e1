use Rattle.std.proofs.Common.{arith}
use Rattle.h2_link.proofs.Prefixes.{partial_size}
use Rattle.h2_link.proofs.link.Link.kept.Goals as goal

pub returns-clause-within : goal.returns-clause-within
returns-clause-within c = omega (arith, partial_size c.self.inside.rest.items c.self.invariant, c.block_len-block.ensures.within)
