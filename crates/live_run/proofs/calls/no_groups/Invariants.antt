use Rattle.std.proofs.Common.{◌≡◌, ◌<◌, ◌≤◌, ◌-◌, ℕ, [], length, slice_index_or}
use Rattle.live_run.proofs.calls.no_groups.Given as goal

abbrev pub invariant-loop-alloc : goal.invariant-loop-alloc
invariant-loop-alloc l = record {
  count : length l.groups.items ≤ 16;
  each : (n : ℕ) (d : _) → n < length l.groups.items → (slice_index_or l.groups.items n d).items ≡ [];
}

abbrev pub decreases-loop-alloc : goal.decreases-loop-alloc
decreases-loop-alloc l = 16 - length l.groups.items
