use Rattle.session_order.proofs.Quiescence.{quiescence_is_exact, quiescence_leaves_stage, first_line_gives}
use Rattle.session_order.proofs.Lines.{lines_are_still}
use Rattle.session_order.proofs.laws.quiescence_is_exact.Goals as goal

pub returns-clause-lines : goal.returns-clause-lines
returns-clause-lines c = lines_are_still

pub returns-clause-quiescent : goal.returns-clause-quiescent
returns-clause-quiescent c = quiescence_is_exact

pub returns-clause-stage : goal.returns-clause-stage
returns-clause-stage c = quiescence_leaves_stage

pub returns-clause-first : goal.returns-clause-first
returns-clause-first c = first_line_gives
