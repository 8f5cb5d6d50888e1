use Rattle.std.proofs.Common.{◌≡◌, drop}
use Rattle.std.specs.List.{list_any}
use Rattle.std.specs.Prelude.{pos, int_lt}
use Rattle.h2_server.specs.declared.live.LiveStream.{LiveStream}
use Rattle.h2_server.specs.LinkErrors.{send_window}
use Rattle.h2_server.specs.Wire.{largest_window}
use Rattle.h2_server.proofs.judge.overflows_streams.Given as goal

abbrev pub invariant-loop-stream : goal.invariant-loop-stream
invariant-loop-stream l =
    list_any (λ (x : LiveStream). int_lt (pos largest_window) (send_window l.setting.value x)) (drop l.stream-index l.live)
    ≡ list_any (λ (x : LiveStream). int_lt (pos largest_window) (send_window l.setting.value x)) l.fn.live
