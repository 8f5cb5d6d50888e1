use Rattle.event_cases.proofs.ResultEvents.BadConfigs.{first_bad_configs}
use Rattle.event_cases.proofs.ResultEvents.Shutdowns.{second_shutdowns}
use Rattle.event_cases.proofs.result_events.some_results_are_answered.Goals as goal

pub returns-clause-shut : goal.returns-clause-shut
returns-clause-shut c = second_shutdowns

pub returns-clause-bad : goal.returns-clause-bad
returns-clause-bad c = first_bad_configs c.quiescence_is_exact.ensures.quiescent
