use Rattle.call_actions.proofs.TakeActions.Deadlines.{deadlines_end, deadlines_wait}
use Rattle.call_actions.proofs.TakeActions.Ends.{cancels_end, ends_cut_attempts, long_sends_end}
use Rattle.call_actions.proofs.take_actions.calls_are_ended.Goals as goal

pub returns-clause-cuts : goal.returns-clause-cuts
returns-clause-cuts c = ends_cut_attempts

pub returns-clause-cancelled : goal.returns-clause-cancelled
returns-clause-cancelled c = cancels_end

pub returns-clause-long : goal.returns-clause-long
returns-clause-long c = long_sends_end

pub returns-clause-deadline : goal.returns-clause-deadline
returns-clause-deadline c = deadlines_end

pub returns-clause-waits : goal.returns-clause-waits
returns-clause-waits c = deadlines_wait
