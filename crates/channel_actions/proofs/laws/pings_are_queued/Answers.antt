use Rattle.channel_actions.proofs.Pinging.{pings_answered}
use Rattle.channel_actions.proofs.Resting.{pings_stay_quiescent}
use Rattle.channel_actions.proofs.laws.pings_are_queued.Goals as goal

pub returns : goal.returns
returns c = pings_answered c.pings_are_actions.ensures (pings_stay_quiescent c.quiescence_is_exact.ensures.quiescent c.links_stir.ensures)
