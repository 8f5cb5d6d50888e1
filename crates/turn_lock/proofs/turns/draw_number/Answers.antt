use Rattle.std.proofs.Common.{arith}
use Rattle.turn_lock.proofs.Steps.{numbers}
use Rattle.turn_lock.proofs.turns.draw_number.Goals as goal

pub fetch_add-found-requires : goal.fetch_add-found-requires
fetch_add-found-requires g c = (c.requires.table.0, omega (arith, c.requires.table.1), numbers g.S.Chronicle.entries g.S.Chronicle.mark_of g.S.Chronicle.origin _ _ _ _ c.requires.waits)
