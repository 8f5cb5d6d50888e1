-- What a channel over a world's links is reported first.
use Rattle.std.specs.Prelude.{◌≡◌, ℕ, Option, List, ◌∷◌}
use Rattle.grpc_base.specs.declared.event.Entry.{Entry}
use Rattle.grpc_base.specs.declared.event.Event.{Event}
use Rattle.grpc_base.specs.declared.event.Event.TheVariants as event
use Rattle.resolver_core.specs.declared.any_target.Target.{Target}
use Rattle.resolver_core.specs.declared.any_target.Target.TheVariants as target

-- the first entry is of this event
abbrev pub IsReportedFirst : Event → List Entry → Type 0
IsReportedFirst e entries = (first : Entry) × (rest : List Entry) × (first.event ≡ e) × (entries ≡ first ∷ rest)

-- a channel is reported first the addresses of its target, where that is a list of some, and the config of the script; a name is looked up
abbrev pub ReportsTarget : Target → Option (List ℕ) → List Entry → Type 0
ReportsTarget (target.Ipv4 addresses) config entries = IsReportedFirst (event.Resolved addresses config) entries
ReportsTarget (target.Dns name) config entries = Unit {0}
