use Rattle.attempt_cases.proofs.DialEvents.Failing.{failed_dials_are_answered}
use Rattle.attempt_cases.proofs.DialEvents.Joining.{links_up_are_answered}
use Rattle.attempt_cases.proofs.DialEvents.Taking.{taken_dials_are_answered}
use Rattle.attempt_cases.proofs.dial_events.dials_are_answered.Goals as goal

pub returns-clause-taken : goal.returns-clause-taken
returns-clause-taken c =
    taken_dials_are_answered c.quiescence_is_exact.ensures.quiescent c.boards_stir.ensures c.subchannel_steps_are_actions.ensures.taken
    c.calls_stay.ensures.all c.sets_stay.ensures c.sessions_are_kept.ensures.along c.links_stay.ensures.all

pub returns-clause-failed : goal.returns-clause-failed
returns-clause-failed c =
    failed_dials_are_answered c.quiescence_is_exact.ensures.quiescent c.boards_stir.ensures c.subchannel_steps_are_actions.ensures.failed
    c.calls_stay.ensures.all c.sets_stay.ensures c.sessions_are_kept.ensures.along c.links_stay.ensures.all

pub returns-clause-up : goal.returns-clause-up
returns-clause-up c =
    links_up_are_answered c.quiescence_is_exact.ensures.quiescent c.boards_stir.ensures c.subchannel_steps_are_actions.ensures.up c.streams_are_kept.ensures.new
    c.calls_stay.ensures.all c.sets_stay.ensures c.sessions_are_kept.ensures.along c.links_stay.ensures.all
