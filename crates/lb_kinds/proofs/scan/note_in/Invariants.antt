use Rattle.std.proofs.Common.{◌≡◌, ◌++◌, map, take, drop}
use Rattle.lb_kinds.specs.Seen.{noted_mark}
use Rattle.lb_kinds.proofs.scan.note_in.Given as goal

-- those before are noted, the others are as before
abbrev pub invariant-loop-marked : goal.invariant-loop-marked
invariant-loop-marked l = l.subs ≡ map (noted_mark l.sub l.state) (take l.marked-index l.fn.subs) ++ drop l.marked-index l.fn.subs
