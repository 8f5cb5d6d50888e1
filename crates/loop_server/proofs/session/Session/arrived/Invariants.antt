use Rattle.std.proofs.Common.{◌≡◌, ℕ, length}
use Rattle.loop_server.specs.Steps.{Arriving, after_steps}
use Rattle.loop_server.proofs.session.Session.arrived.Given as goal

abbrev pub decreases-loop-self : goal.decreases-loop-self
decreases-loop-self l = length l.rest

abbrev pub invariant-loop-self : goal.invariant-loop-self
invariant-loop-self l =
    (count : ℕ) × (◌≡◌ {A = Arriving} (after_steps count (record { state = record { book = l.fn.answers; session = l.fn.self }; rest = l.fn.piece })) (record { state = record { book = l.answers; session = l.self }; rest = l.rest }))
