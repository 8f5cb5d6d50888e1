use Rattle.std.proofs.Common.{◌≡◌, [], drop, map}
use Rattle.json_text.specs.Views.{tree_of}
use Rattle.service_config.specs.Entries.{entries_from}
use Rattle.service_config.proofs.methods.entries.Given as goal

abbrev pub invariant-loop-entry : goal.invariant-loop-entry
invariant-loop-entry l = entries_from l.entry l.known.methods.items (map tree_of (drop l.entry l.values)) ≡ entries_from 0 [] (map tree_of l.values)
