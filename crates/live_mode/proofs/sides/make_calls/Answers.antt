use Rattle.std.proofs.Common.{◌∙◌, sym}
use Rattle.live_mode.proofs.SideLaws.{worked}
use Rattle.live_mode.proofs.sides.make_calls.Goals as goal

pub returns-clause-worked : goal.returns-clause-worked
returns-clause-worked g c = λ lock fresh. worked (λ h. h.seat) (λ h. h.tally.errors) (λ h. h.tally.last_error) lock _ _ _ c.work_calls_of.ensures.count c.work_calls_of.ensures.each (λ whole. sym c.work_calls_of.ensures.outcome ∙ whole) fresh
