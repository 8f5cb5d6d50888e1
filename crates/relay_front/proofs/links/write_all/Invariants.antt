use Rattle.std.proofs.Common.{◌≡◌, ◌≤◌, ◌-◌, take, length}
use Rattle.gate_io.specs.Outside.{Appends}
use Rattle.relay_front.proofs.links.write_all.Given as goal

-- the prefix of the piece up to here was taken
abbrev pub invariant-loop-at : goal.invariant-loop-at
invariant-loop-at g l = record {
  within : l.at ≤ length l.piece;
  taken : Appends (g.O.LinkOut.taken l.fn.output) (g.O.LinkOut.taken l.output) (take l.at l.piece);
  count : g.O.LinkOut.faults l.output ≡ g.O.LinkOut.faults l.fn.output;
}

abbrev pub decreases-loop-at : goal.decreases-loop-at
decreases-loop-at g l = length l.piece - l.at
