-- What the definitions of this crate promise of each other.
use Rattle.std.specs.Prelude.{◌≡◌, ◌≤◌, ℕ}
use Rattle.h2_stream.specs.Stream.{or_zero}
use Rattle.h2_server.specs.declared.live.LiveStream.{LiveStream}
use Rattle.h2_server.specs.LinkErrors.{send_window}
use Rattle.h2_server.specs.Wire.{Wire}

-- so many bytes of DATA are within a frame and within both windows (RFC 9113, section 6.9.1)
pub record KeepsWindows (w : Wire) (s : LiveStream) (len : ℕ) : Type 0 where
  pub size : len ≤ 16384
  pub of_link : len ≤ w.window
  pub of_stream : len ≤ or_zero (send_window w.initial s)
