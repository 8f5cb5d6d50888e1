use Rattle.std.proofs.Common.{◌≡◌, ◌+◌, map, take}
use Rattle.std.specs.List.{range_with_len}
use Rattle.load_session.specs.Sums.{first_end}
use Rattle.load_session.proofs.ends.first_ends.Given as goal

-- the first ends of the entries so far
abbrev pub invariant-loop-entry : goal.invariant-loop-entry
invariant-loop-entry l = l.ends.items ≡ map (first_end (take l.entry-index l.entries)) (range_with_len 0 (l.calls + 1))
