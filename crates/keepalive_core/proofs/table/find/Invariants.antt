use Rattle.std.proofs.Common.{◌≡◌, ◌+◌, length}
use Rattle.keepalive_core.specs.Table.{place_of}
use Rattle.keepalive_core.proofs.table.find.Given as goal

abbrev pub invariant-loop-rest : goal.invariant-loop-rest
invariant-loop-rest l = record {
  place : place_of l.link l.links ≡ l.at + place_of l.link l.rest;
  count : l.at + length l.rest ≡ length l.links;
}

abbrev pub decreases-loop-rest : goal.decreases-loop-rest
decreases-loop-rest l = length l.rest
