use Rattle.std.proofs.Common.{◌∙◌}
use Rattle.live_channel.proofs.SeatLaws.{map_length}
use Rattle.live_mode.proofs.CarriedLaws.{closes_made}
use Rattle.live_mode.proofs.SideLaws.{worked_ones}
use Rattle.live_mode.proofs.sides.Callers+ChannelSeat+P+R+C+D.make.Goals as goal

pub take_in_callers-requires-clause-ones : goal.take_in_callers-requires-clause-ones
take_in_callers-requires-clause-ones g c κs within = worked_ones _ _ _ _ (c.make_calls-made.ensures.worked _ c.requires.fresh)

pub returns : goal.returns
returns g c =
    closes_made (λ h. h.seat) _ _ _ _ _ _ c.with-self.ensures (c.make_calls-made.ensures.worked _ c.requires.fresh)
    (map_length (λ j. j.post.seat) c.make_calls-made.new.jobs.items ∙ c.make_calls-made.ensures.count) c.take_in_callers.ensures c.shut_down-shut.ensures
