use Rattle.attempt_cases.proofs.NetSteps.Stepped.{net_steps_keep}
use Rattle.attempt_cases.proofs.net_steps.net_steps_keep.Goals as goal

pub returns : goal.returns
returns c = net_steps_keep c.calls_stay.ensures.all c.sets_stay.ensures c.sessions_are_kept.ensures.along
