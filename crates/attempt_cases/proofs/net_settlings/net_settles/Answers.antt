use Rattle.attempt_cases.proofs.NetSettlings.Clocked.{clocks_are_parts}
use Rattle.attempt_cases.proofs.NetSettlings.Wished.{wishes_are_parts}
use Rattle.attempt_cases.proofs.net_settlings.net_settles.Goals as goal

pub returns-clause-clock : goal.returns-clause-clock
returns-clause-clock c =
    clocks_are_parts c.quiescence_is_exact.ensures.quiescent c.boards_stir.ensures c.subchannel_steps_are_actions.ensures.clock c.subchannel_steps_are_actions.ensures.rest
    c.calls_stay.ensures.all c.sets_stay.ensures c.sessions_are_kept.ensures.along c.links_stay.ensures.all

pub returns-clause-wishes : goal.returns-clause-wishes
returns-clause-wishes c =
    wishes_are_parts c.quiescence_is_exact.ensures.quiescent c.boards_stir.ensures c.policy_steps_are_actions.ensures.over c.subchannel_steps_are_actions.ensures.wish
    c.subchannel_steps_are_actions.ensures.no_wish
    c.calls_stay.ensures.all c.sets_stay.ensures c.sessions_are_kept.ensures.along c.links_stay.ensures.all
