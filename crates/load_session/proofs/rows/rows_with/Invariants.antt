use Rattle.std.proofs.Common.{◌≡◌, take}
use Rattle.load_session.specs.Sums.{rows_with}
use Rattle.load_session.proofs.rows.rows_with.Given as goal

abbrev pub invariant-loop-row : goal.invariant-loop-row
invariant-loop-row l = l.count ≡ rows_with l.kind (take l.row-index l.rows)
