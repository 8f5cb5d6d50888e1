use Rattle.std.proofs.Common.{◌≡◌, [], drop, map}
use Rattle.json_text.specs.Views.{tree_of}
use Rattle.service_config.specs.Entries.{name_seen, names_from}
use Rattle.service_config.proofs.entry.names_of.Given as goal

abbrev pub invariant-loop-at : goal.invariant-loop-at
invariant-loop-at l = names_from l.entry l.at (map name_seen l.names.items) (map tree_of (drop l.at l.values)) ≡ names_from l.entry 0 [] (map tree_of l.values)
