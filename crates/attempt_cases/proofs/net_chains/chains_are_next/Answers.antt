use Rattle.attempt_cases.proofs.NetChains.Chained.{chains_are_next}
use Rattle.attempt_cases.proofs.net_chains.chains_are_next.Goals as goal

pub returns : goal.returns
returns c = chains_are_next c.boards_stir.ensures c.policies_stir_apart.ensures c.quiescence_is_exact.ensures.lines
