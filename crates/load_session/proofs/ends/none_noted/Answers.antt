use Rattle.std.proofs.Common.{◌∙◌}
use Rattle.load_session.proofs.Noting.{none_more}
use Rattle.load_session.proofs.ends.none_noted.Goals as goal

pub loop-call-preserved : goal.loop-call-preserved
loop-call-preserved c = c.in_ok-push.ensures.items ∙ none_more c.loop-call._call c.loop-call.ends.items c.loop-call.invariant
