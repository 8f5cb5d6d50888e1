-- What a table has once the loan of the element of a number ends: the last value that was written through it.
use Rattle.std.specs.Prelude.{ℕ, ◌-◌, Option, List, slice_set}
use Rattle.std.specs.Borrow.{LendsIf, MutBor, Fml}
use Rattle.channel_core.specs.declared.state.slots.CallSlot.{CallSlot}
use Rattle.channel_core.specs.declared.state.links.LinkSlot.{LinkSlot}
use Rattle.channel_core.specs.contracts.state.slots.CallSlot as call
use Rattle.channel_core.specs.contracts.state.slots.Slots as calls
use Rattle.channel_core.specs.contracts.state.links.LinkSlot as link
use Rattle.channel_core.specs.contracts.state.links.LinkTable as links

abbrev pub lends_call : MutBor (List CallSlot) → ℕ → Option (MutBor CallSlot) → Fml
lends_call s number r = LendsIf calls.the_row call.the_row s r (slice_set s.now (number - 1)) s.now

abbrev pub lends_link : MutBor (List LinkSlot) → ℕ → Option (MutBor LinkSlot) → Fml
lends_link s number r = LendsIf links.the_row link.the_row s r (slice_set s.now (number - 1)) s.now
