use Rattle.link_actions.proofs.ResponseActions.Counted as counted
use Rattle.link_actions.proofs.response_actions.codes_stay.Goals as goal

pub returns-clause-code : goal.returns-clause-code
returns-clause-code c = counted.codes_stay

pub returns-clause-counted : goal.returns-clause-counted
returns-clause-counted c = counted.reads_stay_counted

pub returns-clause-cut : goal.returns-clause-cut
returns-clause-cut c = counted.cuts_are_cancelled
