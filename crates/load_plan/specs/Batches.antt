-- How the calls of a load stand in batches of sixteen, the last of which may be shorter, and when each begins.
use Rattle.std.specs.Prelude.{ℕ, ◌+◌, ◌-◌, ◌*◌, ◌/◌, List, min}
use Rattle.std.specs.List.{range_with_len}

-- how many batches so many calls make
abbrev pub batches_of : ℕ → ℕ
batches_of calls = (calls + 15) / 16

-- the calls of a batch; batches count from 0, and calls from 1
abbrev pub calls_in : ℕ → ℕ → List ℕ
calls_in calls number = range_with_len (16 * number + 1) (min 16 (calls - 16 * number))

-- how many nanoseconds pass in a round
abbrev pub round_nanos : ℕ
round_nanos = 10000000

-- when a batch begins: sixteen rounds after the one before
abbrev pub batch_moment : ℕ → ℕ
batch_moment number = 16 * number * round_nanos
