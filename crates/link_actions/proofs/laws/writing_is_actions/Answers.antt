use Rattle.link_actions.proofs.Keeping.{writes_keep}
use Rattle.link_actions.proofs.Next.{writes_are_same}
use Rattle.link_actions.proofs.laws.writing_is_actions.Goals as goal

pub returns-clause-same : goal.returns-clause-same
returns-clause-same c = writes_are_same

pub returns-clause-after : goal.returns-clause-after
returns-clause-after c = writes_keep
