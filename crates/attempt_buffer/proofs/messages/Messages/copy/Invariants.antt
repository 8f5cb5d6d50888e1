use Rattle.std.proofs.Common.{◌≡◌, ◌≤◌, ◌-◌, ◌++◌, take, drop}
use Rattle.std.specs.List.{concat}
use Rattle.attempt_buffer.specs.Spots.{IsSpot}
use Rattle.attempt_buffer.proofs.messages.Messages.copy.Given as goal

abbrev pub invariant-loop-at : goal.invariant-loop-at
invariant-loop-at l = record {
  spot : IsSpot l.self l.at.message l.at.offset l.at.taken;
  from : l.fn.spot.taken ≤ l.at.taken;
  to : l.at.taken ≤ l.end;
  bytes : l.out.items ≡ l.fn.out.items ++ take (l.at.taken - l.fn.spot.taken) (drop l.fn.spot.taken (concat l.self));
  spare : l.end - l.at.taken ≤ l.out.spare;
}

abbrev pub decreases-loop-at : goal.decreases-loop-at
decreases-loop-at l = l.end - l.at.taken
