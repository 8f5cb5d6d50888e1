use Rattle.std.proofs.Common.{◌∙◌}
use Rattle.live_channel.proofs.SeatLaws.{map_length}
use Rattle.relay_mode.proofs.RelaySideLaws.{relay_side_done, relay_ones}
use Rattle.relay_mode.proofs.relay_side.RelaySide+ChannelSeat+P+R+C+D.relay.Goals as goal

pub take_in_relays-requires-clause-ones : goal.take_in_relays-requires-clause-ones
take_in_relays-requires-clause-ones g c κs within = relay_ones _ _ (c.relay_all-listened.ensures.relayed _ c.requires.fresh)

pub returns-clause-done : goal.returns-clause-done
returns-clause-done g c =
    relay_side_done (λ h. h.seat) _ _ _ _ _ _ c.with-self.ensures (c.relay_all-listened.ensures.relayed _ c.requires.fresh)
    (map_length (λ j. j.post.seat) c.relay_all-listened.new.jobs.items ∙ c.relay_all-listened.ensures.count) c.take_in_relays.ensures c.shut_down-shut.ensures
