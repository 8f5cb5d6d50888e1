use Rattle.link_actions.proofs.StreamActions.EndCodes.{blocks_end_alike, data_ends_alike, goaways_end_alike, resets_end_alike}
use Rattle.link_actions.proofs.stream_actions.ends_are_of_responses.Goals as goal

pub returns-clause-content : goal.returns-clause-content
returns-clause-content c = data_ends_alike

pub returns-clause-block : goal.returns-clause-block
returns-clause-block c = blocks_end_alike

pub returns-clause-reset : goal.returns-clause-reset
returns-clause-reset c = resets_end_alike

pub returns-clause-goaway : goal.returns-clause-goaway
returns-clause-goaway c = goaways_end_alike
