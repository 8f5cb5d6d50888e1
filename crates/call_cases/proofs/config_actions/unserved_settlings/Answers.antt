use Rattle.call_cases.proofs.ConfigActions.Whole.{unserved_settlings}
use Rattle.call_cases.proofs.config_actions.unserved_settlings.Goals as goal

pub returns : goal.returns
returns c =
    unserved_settlings c.quiescence_is_exact.ensures.quiescent c.subchannel_steps_are_actions.ensures.clock c.subchannel_steps_are_actions.ensures.rest
    c.policy_steps_are_actions.ensures.over c.subchannel_steps_are_actions.ensures.wish c.subchannel_steps_are_actions.ensures.no_wish
    c.policy_steps_are_actions.ensures.state c.calls_are_kept.ensures.along c.calls_are_kept.ensures.awaiting_config
