use Rattle.run_cases.proofs.KnownNets.Results.{known_results}
use Rattle.run_cases.proofs.known_nets.known_results_are_answered.Goals as goal

pub returns : goal.returns
returns c =
    known_results c.held_kinds_are_there.ensures.kinds c.held_kinds_are_there.ensures.runs c.picks_are_there.ensures c.left_links_are_stamped.ensures
    c.held_results_are_answered.ensures
