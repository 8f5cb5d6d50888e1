use Rattle.std.proofs.Common.{◌≡◌, [], map}
use Rattle.std.specs.List.{range_with_len}
use Rattle.load_session.specs.Sums.{first_end}
use Rattle.load_session.proofs.ends.none_noted.Given as goal

-- as many as were counted
abbrev pub invariant-loop-call : goal.invariant-loop-call
invariant-loop-call l = l.ends.items ≡ map (first_end []) (range_with_len 0 l._call)
