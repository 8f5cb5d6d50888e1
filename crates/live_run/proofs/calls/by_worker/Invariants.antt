use Rattle.std.proofs.Common.{◌≡◌, ◌<◌, ◌+◌, ◌++◌, ℕ, length, slice_index_or}
use Rattle.std.specs.Vec.Iter.{into_iter_items}
use Rattle.live_run.specs.ByWorker.{lines_of}
use Rattle.live_run.proofs.calls.by_worker.Given as goal

-- what each worker has, and what is left for it
abbrev pub invariant-loop-call : goal.invariant-loop-call
invariant-loop-call l = record {
  count : length l.groups.items ≡ 16;
  each : (n : ℕ) (d : _) → n < 16 → (slice_index_or l.groups.items n d).items ++ lines_of (n + 1) (into_iter_items l.rest) ≡ lines_of (n + 1) l.fn.calls.items;
}

abbrev pub decreases-loop-call : goal.decreases-loop-call
decreases-loop-call l = length (into_iter_items l.rest)
