use Rattle.std.proofs.Common.{◌≡◌, drop, map}
use Rattle.service_config.specs.Entries.{name_seen, added_from}
use Rattle.service_config.proofs.entry.with_names.Given as goal

abbrev pub invariant-loop-place : goal.invariant-loop-place
invariant-loop-place l = added_from l.at l.place l.settings l.known.methods.items (map name_seen (drop l.place l.name-items)) ≡ added_from l.at 0 l.settings l.fn.known.methods.items (map name_seen l.name-items)
