use Rattle.attempt_cases.proofs.ServeSteps.Agreed.{asks_agree}
use Rattle.attempt_cases.proofs.serve_steps.asks_agree.Goals as goal

pub returns : goal.returns
returns c =
    asks_agree c.calls_stay.ensures.all c.sets_stay.ensures c.links_stay.ensures.all c.actions_make_no_difference.ensures.action c.sessions_are_kept.ensures.along
    c.policy_steps_are_actions.ensures.ask
