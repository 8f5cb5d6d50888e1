use Rattle.std.proofs.Common.{◌≡◌, drop}
use Rattle.subchannel.specs.Boards.{sooner}
use Rattle.subchannel.specs.Insides.{next_of_numbers}
use Rattle.subchannel.proofs.next.next_of_live.Given as goal

-- the moments that are left give the answer
abbrev pub invariant-loop-number : goal.invariant-loop-number
invariant-loop-number l =
    sooner l.soonest (next_of_numbers l.subs (drop l.number-index l.live)) ≡ next_of_numbers l.subs l.live
