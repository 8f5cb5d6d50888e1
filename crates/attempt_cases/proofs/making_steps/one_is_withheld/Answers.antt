use Rattle.attempt_cases.proofs.MakingSteps.Withholding.{one_is_withheld}
use Rattle.attempt_cases.proofs.making_steps.one_is_withheld.Goals as goal

pub returns : goal.returns
returns c =
    one_is_withheld c.quiescence_is_exact.ensures.quiescent c.queues_stir.ensures c.subchannel_steps_are_actions.ensures.clock c.subchannel_steps_are_actions.ensures.rest
    c.policy_steps_are_actions.ensures.over c.subchannel_steps_are_actions.ensures.wish c.subchannel_steps_are_actions.ensures.no_wish
    (record {
      calls = c.calls_stay.ensures.all;
      columns = c.others_are_same.ensures.columns;
      sets = c.sets_stay.ensures;
      links = c.links_stay.ensures.all;
      no_difference = c.actions_make_no_difference.ensures.action;
      net = c.nets_stay.ensures.one;
      kept = c.sessions_are_kept.ensures.along;
    }) c.calls_share_tokens_alone.ensures.stay c.books_are_kept.ensures.fair c.calls_go_on_alike.ensures.withheld c.posts_keep_order.ensures.withheld
    c.calls_go_on_alike.ensures.due c.calls_go_on_alike.ensures.tested
