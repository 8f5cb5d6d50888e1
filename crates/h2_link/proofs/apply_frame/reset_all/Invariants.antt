use Rattle.std.proofs.Common.{◌≡◌, drop}
use Rattle.h2_link.specs.Steps.{all_reset}
use Rattle.h2_link.proofs.apply_frame.reset_all.Given as goal

abbrev pub invariant-loop-stream : goal.invariant-loop-stream
invariant-loop-stream l = all_reset (drop l.stream-index l.streams) l.queue ≡ all_reset l.fn.streams l.fn.queue
