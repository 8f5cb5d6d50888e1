use Rattle.call_cases.proofs.ConfigActions.Unserved.{unserved_end}
use Rattle.call_cases.proofs.config_actions.unserved_calls_end.Goals as goal

pub returns : goal.returns
returns c ends x o s h sound at joined unheld =
    unserved_end c.quiescence_is_exact.ensures.quiescent c.subchannel_steps_are_actions.ensures.clock c.subchannel_steps_are_actions.ensures.rest
    c.policy_steps_are_actions.ensures.over c.subchannel_steps_are_actions.ensures.wish c.subchannel_steps_are_actions.ensures.no_wish ends c.calls_are_kept.ensures.along c.calls_are_kept.ensures.awaiting_config x o s h sound at joined unheld
