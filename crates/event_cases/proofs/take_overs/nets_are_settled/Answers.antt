use Rattle.event_cases.proofs.TakeOvers.Settled.{nets_are_settled}
use Rattle.event_cases.proofs.take_overs.nets_are_settled.Goals as goal

pub returns : goal.returns
returns c =
    nets_are_settled c.quiescence_is_exact.ensures.quiescent c.boards_stir.ensures c.policies_stir_apart.ensures c.chains_are_next.ensures c.subchannel_steps_are_actions.ensures.wish
    c.subchannel_steps_are_actions.ensures.no_wish c.calls_stay.ensures.all c.sets_stay.ensures c.sessions_are_kept.ensures.along c.links_stay.ensures.all
