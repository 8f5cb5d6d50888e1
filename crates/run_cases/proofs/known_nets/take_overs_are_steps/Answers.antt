use Rattle.run_cases.proofs.KnownNets.Steps.{net_steps}
use Rattle.run_cases.proofs.known_nets.take_overs_are_steps.Goals as goal

pub returns : goal.returns
returns c =
    net_steps c.links_are_own.ensures.begins c.links_are_own.ensures.along c.links_are_theirs.ensures.begins c.links_are_theirs.ensures.along c.picks_are_there.ensures
    c.left_links_are_stamped.ensures c.nets_are_settled.ensures
