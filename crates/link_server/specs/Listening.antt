-- What happens at a listener does to its count of faults, and how the serving of its links ended.
use Rattle.std.specs.Prelude.{◌≡◌, ℕ, Bool, true}
use Rattle.gate_io.specs.Outside.{one_more}
use Rattle.link_server.specs.declared.links.Noted.{Noted}
use Rattle.link_server.specs.declared.links.Noted.TheVariants as noted
use Rattle.link_server.specs.declared.links.Served.{Served}
use Rattle.link_server.specs.declared.links.Served.TheVariants as served

-- only an accept fails, and that alone raises the count, by one
abbrev pub NotesSo : Bool → ℕ → ℕ → Noted → Type 0
NotesSo accepts faults after noted.Failed = (accepts ≡ true) × (after ≡ one_more faults)
NotesSo accepts faults after noted.Link = after ≡ faults
NotesSo accepts faults after noted.Other = after ≡ faults
NotesSo accepts faults after noted.NoMemory = after ≡ faults

-- no accept failed; or one did, and none was made after it
abbrev pub ServesSo : ℕ → ℕ → Served → Type 0
ServesSo faults after served.Whole = after ≡ faults
ServesSo faults after served.NotListening = after ≡ one_more faults
ServesSo faults after served.NoMemory = Unit {0}
