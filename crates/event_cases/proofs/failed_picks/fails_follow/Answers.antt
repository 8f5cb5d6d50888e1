use Rattle.event_cases.proofs.FailedPicks.Whole.{fails_follow}
use Rattle.event_cases.proofs.failed_picks.fails_follow.Goals as goal

pub returns : goal.returns
returns c = fails_follow
