use Rattle.std.proofs.Common.{◌≡◌, drop}
use Rattle.channel_core.specs.Draining.{streams_given}
use Rattle.channel_core.proofs.state.draining.stamp_streams.Given as goal

abbrev pub invariant-loop-pair : goal.invariant-loop-pair
invariant-loop-pair l = streams_given (drop l.pair-index l.opened) l.rows ≡ streams_given l.opened l.initial.rows
