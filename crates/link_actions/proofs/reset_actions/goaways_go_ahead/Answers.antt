use Rattle.link_actions.proofs.ResetActions.Goaways as goaways
use Rattle.link_actions.proofs.ResetActions.Owing.{goaways_owe_resets}
use Rattle.link_actions.proofs.reset_actions.goaways_go_ahead.Goals as goal

pub returns-clause-ahead : goal.returns-clause-ahead
returns-clause-ahead c = goaways.goaways_go_ahead

pub returns-clause-owed : goal.returns-clause-owed
returns-clause-owed c = goaways_owe_resets
