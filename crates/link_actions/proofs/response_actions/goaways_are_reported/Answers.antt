use Rattle.link_actions.proofs.ResponseActions.Goaways as goaways
use Rattle.link_actions.proofs.response_actions.goaways_are_reported.Goals as goal

pub returns : goal.returns
returns c = goaways.goaways_are_reported
