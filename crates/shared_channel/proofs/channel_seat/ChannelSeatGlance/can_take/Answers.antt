use Rattle.std.proofs.Common.{ap, refl}
use Rattle.shared_channel.proofs.PostLaws.{looks_of}
use Rattle.shared_channel.proofs.channel_seat.ChannelSeatGlance.can_take.Goals as goal

pub returns-clause-reported : goal.returns-clause-reported
returns-clause-reported g c = looks_of (λ s. s.watched.core) _ _ _ _ _ _ _ _ (λ a b ran. (ap (λ s. s.watched.core) ran.0, ran.1)) refl c.turn-answer.ensures.found c.turn-answer.ensures.turn
