use Rattle.std.proofs.Common.{arith}
use Rattle.h2_server.proofs.Prefixes.{part_size}
use Rattle.h2_server.proofs.link.ServerLink.kept.Goals as goal

pub returns-clause-within : goal.returns-clause-within
returns-clause-within c = omega (arith, part_size c.self.inside.prefaced c.self.inside.state c.self.inside.rest.items c.self.invariant, c.len-rest.ensures, c.block_len-block.ensures.within)
