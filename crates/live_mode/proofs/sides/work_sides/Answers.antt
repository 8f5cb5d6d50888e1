use Rattle.std.proofs.iter.Serving.{serving}
use Rattle.live_mode.proofs.SideLaws.{ready_at}
use Rattle.live_mode.proofs.sides.work_sides.Goals as goal

pub for_each_mut-requires-clause-accepts : goal.for_each_mut-requires-clause-accepts
for_each_mut-requires-clause-accepts g c = λ a b i p within same. (
  ready_at (λ h. h.seat) _ _ same (c.requires.ready i p.now within),
  (
    grind serving,
    grind serving,
    grind serving,
    grind serving,
    grind serving,
    grind serving,
    grind serving,
    grind serving,
    grind serving,
  ),
)
