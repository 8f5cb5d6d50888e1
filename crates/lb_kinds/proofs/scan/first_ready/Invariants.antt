use Rattle.std.proofs.Common.{◌≡◌, drop, slice_get}
use Rattle.lb_policy.specs.Table.{is_ready, subs_in}
use Rattle.lb_kinds.specs.Seen.{plain}
use Rattle.lb_kinds.proofs.scan.first_ready.Given as goal

-- none was found before here
abbrev pub invariant-loop-marked : goal.invariant-loop-marked
invariant-loop-marked l = slice_get (subs_in is_ready (plain (drop l.marked-index l.subs))) 0 ≡ slice_get (subs_in is_ready (plain l.fn.subs)) 0
