use Rattle.std.proofs.Common.{◌≡◌, length}
use Rattle.h2_frame.specs.Payloads.{settings_in}
use Rattle.h2_server.specs.Settings.{with_settings}
use Rattle.h2_server.proofs.setting.with_settings.Given as goal

abbrev pub decreases-loop-setting : goal.decreases-loop-setting
decreases-loop-setting l = length l.rest

abbrev pub invariant-loop-setting : goal.invariant-loop-setting
invariant-loop-setting l = with_settings l.settings (settings_in l.rest) ≡ with_settings l.fn.old (settings_in l.fn.payload)
