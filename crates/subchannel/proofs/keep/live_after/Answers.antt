use Rattle.std.proofs.Common.{arith}
use Rattle.subchannel.proofs.KeepLaws.{numbers-pushed}
use Rattle.subchannel.proofs.keep.live_after.Goals as goal

pub loop-count-preserved : goal.loop-count-preserved
loop-count-preserved c = record {
  next = omega arith;
  numbers = numbers-pushed _ _ _ _ _ _ c.loop-count.invariant.numbers c.in_ok-push.ensures.items (omega arith);
}
