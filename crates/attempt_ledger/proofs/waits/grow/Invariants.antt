use Rattle.std.proofs.Common.{◌≡◌, ◌≤◌, ◌^◌}
use Rattle.grpc_base.specs.Backoff.{grown}
use Rattle.grpc_base.specs.Limits.{duration_limit}
use Rattle.attempt_ledger.proofs.waits.grow.Given as goal

-- the value so far
abbrev pub invariant-loop-times_so_far : goal.invariant-loop-times_so_far
invariant-loop-times_so_far l = record {
  value : l.value ≡ grown l.start l.factor (10 ^ 18) l.times_so_far;
  within : l.value ≤ duration_limit;
}
