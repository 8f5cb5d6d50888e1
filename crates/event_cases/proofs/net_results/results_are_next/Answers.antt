use Rattle.event_cases.proofs.NetResults.Joined.{results_are_next, shutdowns_are_next, take_overs_are_next}
use Rattle.event_cases.proofs.net_results.results_are_next.Goals as goal

pub returns-clause-result_taken : goal.returns-clause-result_taken
returns-clause-result_taken c = results_are_next c.chains_are_next.ensures c.policies_come_and_go.ensures.result_taken

pub returns-clause-over : goal.returns-clause-over
returns-clause-over c =
    take_overs_are_next c.quiescence_is_exact.ensures.quiescent c.policies_stir_apart.ensures c.chains_are_next.ensures c.policies_come_and_go.ensures.over

pub returns-clause-shut : goal.returns-clause-shut
returns-clause-shut c = shutdowns_are_next c.chains_are_next.ensures c.policies_come_and_go.ensures.shut
