use Rattle.std.proofs.Common.{◌≡◌, ℕ, length}
use Rattle.relay_connection.specs.Arriving.{Arriving, after_steps}
use Rattle.relay_connection.proofs.connection.RelayConnection.take.Given as goal

abbrev pub decreases-loop-self : goal.decreases-loop-self
decreases-loop-self l = length l.rest

abbrev pub invariant-loop-self : goal.invariant-loop-self
invariant-loop-self l =
    (count : ℕ) × (◌≡◌ {A = Arriving} (after_steps count (record { state = record { relay = l.fn.self; asks = l.fn.asks.items }; rest = l.fn.piece })) (record { state = record { relay = l.self; asks = l.asks.items }; rest = l.rest }))
