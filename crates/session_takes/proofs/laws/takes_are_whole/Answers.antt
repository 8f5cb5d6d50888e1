use Rattle.session_takes.proofs.Between.{ends_come_at_once}
use Rattle.session_takes.proofs.Whole.{ends_are_last, takes_are_whole}
use Rattle.session_takes.proofs.laws.takes_are_whole.Goals as goal

pub returns-clause-whole : goal.returns-clause-whole
returns-clause-whole c = takes_are_whole

pub returns-clause-comes : goal.returns-clause-comes
returns-clause-comes c = ends_come_at_once

pub returns-clause-last : goal.returns-clause-last
returns-clause-last c = ends_are_last
