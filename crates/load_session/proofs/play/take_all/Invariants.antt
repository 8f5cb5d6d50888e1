use Rattle.std.proofs.Common.{◌≤◌, length}
use Rattle.load_session.proofs.Acts.{IsTaking}
use Rattle.load_session.proofs.play.take_all.Given as goal

-- so many heads and messages were taken, and the journal has an entry for each
abbrev pub invariant-loop-taken : goal.invariant-loop-taken
invariant-loop-taken g l = record {
  taking : IsTaking l.moment l.call l.fn.core l.core;
  counted : l._taken ≤ length l.core.journal.entries;
}
