use Rattle.std.proofs.Common.{◌≡◌, ℕ, []}
use Rattle.loop_server.specs.Drains.{Giving, given}
use Rattle.loop_server.proofs.Weights.{weight}
use Rattle.loop_server.proofs.session.Session.drain.Given as goal

abbrev pub decreases-loop-out : goal.decreases-loop-out
decreases-loop-out l = weight l.lines (record { session = l.self; answered = l.answered; octets = l.out.items })

abbrev pub invariant-loop-out : goal.invariant-loop-out
invariant-loop-out l =
    (count : ℕ) × (◌≡◌ {A = Giving} (given l.lines count (record { session = l.fn.self; answered = l.fn.answered; octets = [] })) (record { session = l.self; answered = l.answered; octets = l.out.items }))
