use Rattle.std.proofs.Common.{◌≡◌, length}
use Rattle.std.specs.List.{list_any}
use Rattle.h2_frame.specs.Payloads.{settings_in}
use Rattle.h2_server.specs.LinkErrors.{overflows_streams}
use Rattle.h2_server.proofs.judge.has_overflow.Given as goal

abbrev pub decreases-loop-setting : goal.decreases-loop-setting
decreases-loop-setting l = length l.rest

abbrev pub invariant-loop-setting : goal.invariant-loop-setting
invariant-loop-setting l = list_any (overflows_streams l.live) (settings_in l.rest) ≡ list_any (overflows_streams l.live) (settings_in l.initial.rest)
