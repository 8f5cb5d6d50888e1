use Rattle.std.proofs.Common.{◌≡◌, drop}
use Rattle.subchannel.specs.Insides.{kept_numbers}
use Rattle.subchannel.proofs.keep.shut_unwanted.Given as goal

-- the numbers that are left give the list
abbrev pub invariant-loop-number : goal.invariant-loop-number
invariant-loop-number l =
    kept_numbers l.current l.pending (drop l.number-index l.live) l.subs.items ≡ kept_numbers l.current l.pending l.live l.fn.subs.items
