use Rattle.channel_net.proofs.ViewRuns.{views-are}
use Rattle.channel_net.proofs.laws.laws_of_views.Goals as goal

pub returns : goal.returns
returns c = views-are c.laws_of_runs.ensures.kept
