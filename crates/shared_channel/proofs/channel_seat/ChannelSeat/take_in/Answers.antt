use Rattle.shared_channel.proofs.JoinLaws.{joined_stands}
use Rattle.shared_channel.proofs.channel_seat.ChannelSeat.take_in.Goals as goal

pub returns-clause-other : goal.returns-clause-other
returns-clause-other g c = joined_stands c.args.other c.front.new.seat c.join_seat.new.seat.seen c.front.ensures.sees c.front.ensures.kept c.join_seat.ensures.other
