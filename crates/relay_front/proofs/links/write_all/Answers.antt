use Rattle.std.proofs.Common.{◌∙◌}
use Rattle.gate_io.proofs.AppendLaws.{Appends-next, next_within}
use Rattle.relay_front.proofs.links.write_all.Goals as goal

pub loop-at-preserved : goal.loop-at-preserved
loop-at-preserved g c = record {
  within = next_within _ _ _ c.loop-at.invariant.within c.in-Took.ensures.bytes.1;
  taken = Appends-next _ _ _ _ _ _ c.loop-at.invariant.taken c.in-Took.ensures.bytes.1 c.in-Took.ensures.bytes.2;
  count = c.in-Took.ensures.count ∙ c.loop-at.invariant.count;
}
