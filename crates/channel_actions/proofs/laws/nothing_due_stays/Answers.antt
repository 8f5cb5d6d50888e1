use Rattle.channel_actions.proofs.Idleness.Settlings.{idle_settlings}
use Rattle.channel_actions.proofs.Timely.{in_time}
use Rattle.channel_actions.proofs.laws.nothing_due_stays.Goals as goal

pub returns-clause-deadline : goal.returns-clause-deadline
returns-clause-deadline c = in_time

pub returns-clause-settling : goal.returns-clause-settling
returns-clause-settling c =
    idle_settlings c.subchannel_steps_are_actions.ensures.clock c.policy_steps_are_actions.ensures.over c.subchannel_steps_are_actions.ensures.wish
    c.policy_steps_are_actions.ensures.state
