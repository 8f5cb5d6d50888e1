use Rattle.std.proofs.Common.{◌≡◌, drop}
use Rattle.lb_policy.specs.Table.{is_ready, has_state}
use Rattle.lb_kinds.specs.Seen.{plain}
use Rattle.lb_kinds.proofs.scan.any_ready.Given as goal

-- none was found before here
abbrev pub invariant-loop-marked : goal.invariant-loop-marked
invariant-loop-marked l = has_state is_ready (plain (drop l.marked-index l.subs)) ≡ has_state is_ready (plain l.fn.subs)
