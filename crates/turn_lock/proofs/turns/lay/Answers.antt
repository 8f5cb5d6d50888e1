use Rattle.std.proofs.Common.{refl}
use Rattle.turn_lock.proofs.Steps.{begins}
use Rattle.turn_lock.proofs.turns.lay.Goals as goal

pub new-requires : goal.new-requires
new-requires g c = rw (c.in_ok-push.ensures.items, c.new-slots.ensures.items, c.of-about.ensures)
    (begins g.S.Chronicle.entries g.S.Chronicle.mark_of g.S.Chronicle.origin _ c.args.state c.front_of-opening.result refl c.front_of-opening.ensures.front c.front_of-opening.ensures.small)
