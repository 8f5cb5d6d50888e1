use Rattle.std.proofs.Common.{◌≡◌, ◌-◌}
use Rattle.channel_core.specs.Arrivals as arrivals
use Rattle.channel_core.proofs.state.State.lose_rows.Given as goal

abbrev pub invariant-loop-row : goal.invariant-loop-row
invariant-loop-row g l =
    arrivals.rows_lost (arrivals.most_rows - l._row) l.link l.each l.last l.self ≡ arrivals.rows_lost arrivals.most_rows l.fn.link l.fn.each 0 l.fn.self
