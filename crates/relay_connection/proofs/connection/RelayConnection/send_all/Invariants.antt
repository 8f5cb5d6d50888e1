use Rattle.std.proofs.Common.{◌≡◌, ℕ, []}
use Rattle.relay_connection.specs.Draining.{Sending, after_frames}
use Rattle.relay_connection.proofs.Weights.{weight}
use Rattle.relay_connection.proofs.connection.RelayConnection.send_all.Given as goal

abbrev pub decreases-loop-out : goal.decreases-loop-out
decreases-loop-out l = weight l.self

abbrev pub invariant-loop-out : goal.invariant-loop-out
invariant-loop-out l =
    (count : ℕ) × (◌≡◌ {A = Sending} (after_frames l.room count (record { relay = l.fn.self; octets = [] })) (record { relay = l.self; octets = l.out.items }))
