use Rattle.std.proofs.Common.{◌≡◌, ◌≤◌, ◌++◌, map, drop}
use Rattle.arrayvec.specs.ArrayVec.{array_vec_len}
use Rattle.lb_kinds.specs.Seen.{failed_of, marked_by}
use Rattle.lb_kinds.proofs.scan.mark_all.Given as goal

-- those before are marked
abbrev pub invariant-loop-seen : goal.invariant-loop-seen
invariant-loop-seen l =
    (l.marked.items ++ map (marked_by (failed_of l.before)) (drop l.seen-index l.subs) ≡ map (marked_by (failed_of l.fn.before)) l.fn.subs) × (array_vec_len l.marked ≤ l.seen-index)
