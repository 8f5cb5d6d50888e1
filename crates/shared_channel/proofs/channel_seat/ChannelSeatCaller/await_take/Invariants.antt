use Rattle.std.proofs.Common.{◌≡◌}
use Rattle.shared_channel.specs.Turns.{SeesMore}
use Rattle.shared_channel.proofs.channel_seat.ChannelSeatCaller.await_take.Given as goal

-- looks make no entry, and use no word
abbrev pub invariant-loop : goal.invariant-loop
invariant-loop g l = record {
  sees : SeesMore l.fn.self.seat l.self.seat;
  tally : l.self.tally ≡ l.fn.self.tally;
  clock : l.self.clock ≡ l.fn.self.clock;
  next : l.self.next ≡ l.fn.self.next;
  draws : l.self.draws ≡ l.fn.self.draws;
}
