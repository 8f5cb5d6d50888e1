use Rattle.std.proofs.Common.{◌∙◌, rules}
use Rattle.relay_mode.proofs.run.relay_jobs.Goals as goal

pub loop-seat-preserved : goal.loop-seat-preserved
loop-seat-preserved g c = record {
  lock = c.add_relay.ensures.lock ∙ c.loop-seat.invariant.lock;
  most = search rules;
  parts = search rules;
  splits = c.in_ok-add_relay.ensures.splits _ c.loop-seat.invariant.splits;
}
