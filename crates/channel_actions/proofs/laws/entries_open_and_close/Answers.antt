use Rattle.channel_actions.proofs.Closing.{closings}
use Rattle.channel_actions.proofs.Opening.{openings}
use Rattle.channel_actions.proofs.Resting.{closings_are_quiescent}
use Rattle.channel_actions.proofs.laws.entries_open_and_close.Goals as goal

pub returns-clause-opens : goal.returns-clause-opens
returns-clause-opens c = openings

pub returns-clause-closes : goal.returns-clause-closes
returns-clause-closes c =
    closings (closings_are_quiescent c.quiescence_is_exact.ensures.quiescent c.entries_rest.ensures.begin c.entries_rest.ensures.end)
