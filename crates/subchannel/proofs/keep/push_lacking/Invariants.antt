use Rattle.std.proofs.Common.{◌≡◌, ◌+◌, ◌≤◌, ◌++◌, map, take, vec_len}
use Rattle.subchannel.specs.Records.{new_sub}
use Rattle.subchannel.specs.Boards.{lacking}
use Rattle.subchannel.proofs.keep.push_lacking.Given as goal

-- the new ones so far
abbrev pub invariant-loop-address : goal.invariant-loop-address
invariant-loop-address l = record {
  made : l.added.items ≡ l.fn.added.items ++ map new_sub (lacking l.subs l.others (take l.address-index l.addresses));
  few : vec_len l.added ≤ vec_len l.fn.added + l.address-index;
}
