use Rattle.run_cases.proofs.KnownStages.Steps.{clock_steps, wish_steps}
use Rattle.run_cases.proofs.known_stages.clocks_and_wishes_are_steps.Goals as goal

pub returns-clause-clock : goal.returns-clause-clock
returns-clause-clock c = clock_steps c.links_are_own.ensures.begins c.links_are_own.ensures.along c.net_settles.ensures.clock

pub returns-clause-wishes : goal.returns-clause-wishes
returns-clause-wishes c = wish_steps c.links_are_own.ensures.begins c.links_are_own.ensures.along c.net_settles.ensures.wishes
