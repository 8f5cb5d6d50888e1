use Rattle.std.proofs.Common.{◌≡◌, ℕ, List, length}
use Rattle.grpc_base.specs.declared.fields.Field.{Field}
use Rattle.h2_hpack.specs.Tables.{list_size, fitting}
use Rattle.h2_hpack.proofs.table.evict.Given as goal

-- the entries that are left hold all that fit
pub record Evicted (before entries : List Field) (size room : ℕ) : Type 0 where
  pub size_is : size ≡ list_size entries
  pub kept : fitting room entries ≡ fitting room before

abbrev pub invariant-loop-size : goal.invariant-loop-size
invariant-loop-size l = Evicted l.initial.entries.items l.entries.items l.size l.room

abbrev pub decreases-loop-size : goal.decreases-loop-size
decreases-loop-size l = length l.entries.items
