-- One round of a settling more, one attempt of a pass over the queue, and one call of those that a Shutdown ends.
use Rattle.std.proofs.Common.{◌≡◌, ℕ, suc, ◌+◌, ◌-◌, ◌<◌, ap, arith}
use Rattle.channel_core.specs.Applying.{calls_closed, closed_at}
use Rattle.channel_core.specs.Settling.{passed, passed_on, round, rounds, rounds_on}
use Rattle.channel_core.specs.States.{StateSeen}
use Rattle.channel_core.specs.Steps.{Moved, next_served}

one_less : (n i : ℕ) → i < n → n - i ≡ suc (n - (i + 1))
one_less n i h = omega arith

pub rounds_step : (n i : ℕ) (s : StateSeen) → i < n → rounds (n - i) s ≡ rounds_on (rounds (n - (i + 1))) (round s)
unfolding rounds
rounds_step n i s h = ap (λ k. rounds k s) (one_less n i h)

pub passed_step : (n i : ℕ) (last : ℕ × ℕ) (m : Moved) → i < n → passed (n - i) last m ≡ passed_on (passed (n - (i + 1))) (next_served last m.state) m
unfolding passed
passed_step n i last m h = ap (λ k. passed k last m) (one_less n i h)

pub closed_step : (n i : ℕ) (s : StateSeen) → i < n → calls_closed (n - i) i s ≡ calls_closed (n - (i + 1)) (i + 1) (closed_at i s)
closed_step n i s h = ap (λ k. calls_closed k i s) (one_less n i h)
