-- What the calls inside answer, beside the state that they leave.
use Rattle.std.specs.Prelude.{◌≡◌, Bool, true, false, Option, Some, None}
use Rattle.relay_connection.specs.Draining.{Sending}

-- the next frame went, or none did and nothing changed
abbrev pub WentAs : Bool → Option Sending → Sending → Sending → Type 0
WentAs true None g h = ⊥
WentAs true (Some more) g h = h ≡ more
WentAs false None g h = h ≡ g
WentAs false (Some more) g h = ⊥
