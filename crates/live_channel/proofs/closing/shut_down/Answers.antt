use Rattle.live_channel.proofs.SeatLaws.{shuts_posted}
use Rattle.live_channel.proofs.closing.shut_down.Goals as goal

pub returns : goal.returns
returns g c = shuts_posted _ _ c.post-posted.result _ _ _ c.outcome_of.ensures c.post-posted.ensures.place
