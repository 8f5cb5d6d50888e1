-- What a list has once the loan of the thing of a number ends: the last value that was written through it.
use Rattle.std.specs.Prelude.{List, Option, slice_set, ℕ, ◌-◌}
use Rattle.std.specs.Borrow.{Fml, LendsIf, MutBor, RattleType}
use Rattle.slow_changes.specs.contracts.table.Table.{the_row}

abbrev pub lends_numbered : (R : RattleType) → MutBor (List R.Denot) → ℕ → Option (MutBor R.Denot) → Fml
lends_numbered R s number r = LendsIf (the_row R) R s r (slice_set s.now (number - 1)) s.now
