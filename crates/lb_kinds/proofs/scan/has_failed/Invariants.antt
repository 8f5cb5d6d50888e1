use Rattle.std.proofs.Common.{◌≡◌, drop}
use Rattle.lb_policy.specs.Table.{is_one_of}
use Rattle.lb_kinds.specs.Seen.{failed_of}
use Rattle.lb_kinds.proofs.scan.has_failed.Given as goal

-- it was none of those before here
abbrev pub invariant-loop-marked : goal.invariant-loop-marked
invariant-loop-marked l = is_one_of (failed_of (drop l.marked-index l.subs)) l.sub ≡ is_one_of (failed_of l.fn.subs) l.sub
