use Rattle.relay_mode.proofs.RelaySideLaws.{relayed}
use Rattle.relay_mode.proofs.relay_side.relay_all.Goals as goal

pub returns-clause-relayed : goal.returns-clause-relayed
returns-clause-relayed g c = λ lock fresh. relayed (λ h. h.seat) (λ h. h.tally.errors) (λ h. h.tally.last_error) lock _ _ c.relay_all_of.ensures.count c.relay_all_of.ensures.each fresh
