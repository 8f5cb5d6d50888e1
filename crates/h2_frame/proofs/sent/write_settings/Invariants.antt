use Rattle.std.proofs.Common.{◌≡◌, ◌≤◌, ◌+◌, ◌*◌, ◌++◌, length, take}
use Rattle.h2_frame.specs.Frames.{header_bytes}
use Rattle.h2_frame.specs.Numbers.{settings_type}
use Rattle.h2_frame.specs.Payloads.{settings_bytes}
use Rattle.h2_frame.proofs.sent.write_settings.Given as goal

-- the settings so far are written, and there is room for the others
abbrev pub invariant-loop-setting : goal.invariant-loop-setting
invariant-loop-setting l =
    (l.out.items ≡ l.fn.out.items ++ header_bytes (length l.settings * 6) settings_type 0 0 ++ settings_bytes (take l.setting-index l.settings))
    × (length l.settings * 6 ≤ l.out.spare + l.setting-index * 6)
