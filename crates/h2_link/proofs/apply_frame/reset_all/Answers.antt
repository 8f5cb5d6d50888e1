use Rattle.h2_link.proofs.Resets.{one_more}
use Rattle.h2_link.proofs.apply_frame.reset_all.Goals as goal

pub loop-stream-preserved : goal.loop-stream-preserved
loop-stream-preserved c =
    one_more c.args.streams.now c.loop-stream.stream-index c.stream-item.result c.loop-stream.queue c.reset.new.self _ c.loop-stream-test.true c.stream-item.is c.in_ok-reset.ensures c.loop-stream.invariant
