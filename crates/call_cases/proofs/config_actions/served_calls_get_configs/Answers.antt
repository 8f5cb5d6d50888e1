use Rattle.call_cases.proofs.ConfigActions.Every.{served_get}
use Rattle.call_cases.proofs.config_actions.served_calls_get_configs.Goals as goal

pub returns : goal.returns
returns c config x o s h sound at joined held allowed =
    served_get c.quiescence_is_exact.ensures.quiescent c.configs_stir.ensures c.subchannel_steps_are_actions.ensures.clock c.subchannel_steps_are_actions.ensures.rest
    c.policy_steps_are_actions.ensures.over c.subchannel_steps_are_actions.ensures.wish c.subchannel_steps_are_actions.ensures.no_wish c.calls_get_configs.ensures
    (record {
      calls = c.calls_stay.ensures.all;
      columns = c.others_are_same.ensures.columns;
      sets = c.sets_stay.ensures;
      links = c.links_stay.ensures.all;
      no_difference = c.actions_make_no_difference.ensures.action;
      net = c.nets_stay.ensures.one;
      kept = c.sessions_are_kept.ensures.along;
    })
    c.calls_are_kept.ensures.along c.calls_are_kept.ensures.awaiting_config config x o s h sound at joined held
