use Rattle.std.proofs.Common.{◌∙◌, rules}
use Rattle.live_mode.proofs.GroupLaws.{lines_next}
use Rattle.live_mode.proofs.workers.call_jobs.Goals as goal

pub loop-lines-preserved : goal.loop-lines-preserved
loop-lines-preserved g c = record {
  lock = c.add_calls.ensures.lock ∙ c.loop-lines.invariant.lock;
  parts = search rules;
  splits = c.in_ok-add_calls.ensures.splits _ c.loop-lines.invariant.splits;
  lines = lines_next (λ g. g.items) _ _ _ _ _ c.next.result c.in-Some.lines c.next.ensures.items c.in-Some.is c.in_ok-add_calls.ensures.lines c.loop-lines.invariant.lines;
}
