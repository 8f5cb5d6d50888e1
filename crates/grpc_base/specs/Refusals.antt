-- Refusals of events.
use Rattle.std.specs.Prelude.{ℕ}
use Rattle.grpc_base.specs.declared.event.Refusal.{Refusal}
use Rattle.grpc_base.specs.declared.event.Refusal.TheVariants as refusal

-- the number of a refusal
abbrev pub refusal_number : Refusal → ℕ
refusal_number refusal.NoSuchCall = 1
refusal_number refusal.CallEnded = 2
refusal_number refusal.AfterFinish = 3
refusal_number refusal.NoSuchSub = 4
refusal_number refusal.NotDialing = 5
refusal_number refusal.NoSuchLink = 6
refusal_number refusal.LinkGone = 7
refusal_number refusal.RoomTooSmall = 8
refusal_number refusal.Shut = 9
