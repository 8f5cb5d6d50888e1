use Rattle.std.proofs.Common.{◌≡◌, ◌≤◌, ◌+◌, [], List, All, length}
use Rattle.grpc_base.specs.Limits.{moment_limit}
use Rattle.keepalive_core.specs.Keepalive.{first_fault, stand_after}
use Rattle.keepalive_core.specs.declared.rule.KeepEntry.{KeepEntry}
use Rattle.keepalive_core.proofs.check.check_keep.Given as goal

-- what stands before the rest, newest first, keeps the rules
abbrev pub invariant-loop-entry : goal.invariant-loop-entry
invariant-loop-entry l = record {
  older : List KeepEntry;
  stand : l.keep ≡ stand_after l.fn.rule l.fn.start older;
  place : length older ≡ l.place;
  count : l.place + length l.rest ≡ length l.fn.log;
  moments : All (λ e. e.moment ≤ moment_limit) l.rest;
  fault : first_fault l.fn.rule l.fn.start [] l.fn.log ≡ first_fault l.fn.rule l.fn.start older l.rest;
}

abbrev pub decreases-loop-entry : goal.decreases-loop-entry
decreases-loop-entry l = length l.rest
