use Rattle.std.proofs.Common.{◌∙◌, rules}
use Rattle.channel_client.proofs.run.client_jobs.Goals as goal

pub loop-work-preserved : goal.loop-work-preserved
loop-work-preserved g c = record {
  lock = c.add_client.ensures.lock ∙ c.loop-work.invariant.lock;
  parts = search rules;
  splits = c.in_ok-add_client.ensures.splits _ c.loop-work.invariant.splits;
}
