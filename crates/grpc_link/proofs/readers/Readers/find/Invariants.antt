use Rattle.std.proofs.Common.{◌≡◌, drop}
use Rattle.grpc_link.specs.Links.{found_from}
use Rattle.grpc_link.proofs.readers.Readers.find.Given as goal

abbrev pub invariant-loop-place : goal.invariant-loop-place
invariant-loop-place l = found_from l.tag l.place (drop l.place l.reader-items) ≡ found_from l.tag 0 l.reader-items
