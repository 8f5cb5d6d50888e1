use Rattle.std.proofs.Common.{◌≡◌, ◌+◌, ◌++◌, length, filter}
use Rattle.subchannel.specs.Insides.{numbers_from, stays}
use Rattle.subchannel.specs.Boards.{passes}
use Rattle.subchannel.proofs.keep.live_after.Given as goal

-- the numbers so far
abbrev pub invariant-loop-count : goal.invariant-loop-count
invariant-loop-count l = record {
  next : l.next ≡ length l.subs + l.count;
  numbers : l.numbers.items ≡ filter (passes (stays l.current l.pending) l.subs) l.live ++ numbers_from (length l.subs + 1) l.count;
}
