use Rattle.link_actions.proofs.Ended.{ends_keep}
use Rattle.link_actions.proofs.Queued.{resets_keep}
use Rattle.link_actions.proofs.laws.ends_are_actions.Goals as goal

pub returns-clause-end : goal.returns-clause-end
returns-clause-end c = ends_keep

pub returns-clause-reset : goal.returns-clause-reset
returns-clause-reset c = resets_keep
