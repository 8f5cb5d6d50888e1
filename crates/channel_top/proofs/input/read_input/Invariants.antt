use Rattle.std.proofs.Common.{◌≤◌, ◌-◌, length}
use Rattle.gate_io.specs.Outside.{Takes}
use Rattle.channel_top.proofs.input.read_input.Given as goal

-- the bytes so far are those that were read
abbrev pub invariant-loop-buf : goal.invariant-loop-buf
invariant-loop-buf g l = record {
  within : length l.bytes.items ≤ l.limit;
  read : Takes (g.S.Source.left l.fn.source) (g.S.Source.left l.source) l.bytes.items;
  count : g.S.Source.faults l.fn.source ≤ g.S.Source.faults l.source;
}

abbrev pub decreases-loop-buf : goal.decreases-loop-buf
decreases-loop-buf g l = l.limit - length l.bytes.items
