use Rattle.std.proofs.Common.{◌≡◌, ◌≤◌, ◌++◌, drop}
use Rattle.arrayvec.specs.ArrayVec.{array_vec_len}
use Rattle.lb_policy.specs.Table.{is_ready, subs_in}
use Rattle.lb_kinds.specs.Seen.{plain}
use Rattle.lb_kinds.proofs.scan.all_ready.Given as goal

-- what was found, and what the rest has, are all; no more than one for each subchannel
abbrev pub invariant-loop-marked : goal.invariant-loop-marked
invariant-loop-marked l =
    (l.numbers.items ++ subs_in is_ready (plain (drop l.marked-index l.subs)) ≡ subs_in is_ready (plain l.fn.subs)) × (array_vec_len l.numbers ≤ l.marked-index)
