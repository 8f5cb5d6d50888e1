use Rattle.std.proofs.Common.{◌≡◌, ◌-◌, length}
use Rattle.h2_frame.specs.Readings.{fault_place, fault_place_from}
use Rattle.h2_frame.proofs.read.fault_place.Given as goal

-- no fewer bytes are at fault
abbrev pub invariant-loop-place : goal.invariant-loop-place
invariant-loop-place l = fault_place_from (length l.bytes - l.place) l.place l.bytes ≡ fault_place l.bytes
