-- The entries that a worker adds, by the kind of their events.
use Rattle.std.specs.Prelude.{◌≡◌, List, ◌++◌}
use Rattle.std.specs.List.{AllByRecursion}
use Rattle.grpc_base.specs.declared.event.Entry.{Entry}
use Rattle.grpc_base.specs.declared.event.Event.{Event}
use Rattle.grpc_base.specs.declared.event.Event.TheVariants as event

-- an event that a worker posts which keeps links open: of a dial, of a link, or of the clock. The application and the
-- resolver post none of these
abbrev pub IsOfLinks : Event → Type 0
IsOfLinks event.TakeDial = Unit {0}
IsOfLinks (event.LinkUp sub) = Unit {0}
IsOfLinks (event.DialFailed sub) = Unit {0}
IsOfLinks (event.Arrived link piece) = Unit {0}
IsOfLinks (event.LinkLost link) = Unit {0}
IsOfLinks (event.Drain link room) = Unit {0}
IsOfLinks (event.Ping link word) = Unit {0}
IsOfLinks event.Tick = Unit {0}
IsOfLinks _ = ⊥

-- entries were added after these, each of an event of this kind
pub record AddsOnly (IsOfKind : Event → Type 0) (before after : List Entry) : Type 0 where
  pub added : List Entry
  pub made : after ≡ before ++ added
  pub each : AllByRecursion (λ e. IsOfKind e.event) added
