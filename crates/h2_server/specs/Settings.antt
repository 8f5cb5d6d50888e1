-- Nobody has to believe these steps: what the code does with the settings of a frame, one after the other.
use Rattle.std.specs.Prelude.{◌==◌, true, nat_le, ◌&&◌, if◌then◌else◌, List, [], ◌∷◌}
use Rattle.h2_frame.specs.declared.payload.Setting.{Setting}
use Rattle.h2_server.specs.declared.setting.ClientSettings.{ClientSettings}
use Rattle.h2_server.specs.Wire.{largest_window}

-- with one setting more
abbrev pub with_setting : ClientSettings → Setting → ClientSettings
with_setting t s = record {
  initial = if (s.identifier == 4) && nat_le s.value largest_window then s.value else t.initial;
  resizes = if s.identifier == 1 then true else t.resizes;
}

abbrev pub with_settings : ClientSettings → List Setting → ClientSettings
with_settings t [] = t
with_settings t (s ∷ settings) = with_settings (with_setting t s) settings
