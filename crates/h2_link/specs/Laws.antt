-- What the definitions of this crate promise of each other.
use Rattle.std.specs.Prelude.{◌≡◌, ◌≤◌, ℕ}
use Rattle.h2_stream.specs.Stream.{or_zero}
use Rattle.h2_link.specs.declared.live.LiveStream.{LiveStream}
use Rattle.h2_link.specs.LinkErrors.{send_window}
use Rattle.h2_link.specs.Wire.{Wire}

-- what was received from the peer is the same in both
pub record KeepsReceived (w w2 : Wire) : Type 0 where
  pub read : w2.read ≡ w.read
  pub broken : w2.broken ≡ w.broken
  pub ready : w2.ready ≡ w.ready
  pub retiring : w2.retiring ≡ w.retiring
  pub settings : (w2.limit ≡ w.limit) × (w2.initial ≡ w.initial)
  pub block : w2.block ≡ w.block
  pub table : w2.table ≡ w.table

-- so many bytes of DATA are within a frame and within both windows (RFC 9113, section 6.9.1)
pub record KeepsWindows (window initial : ℕ) (s : LiveStream) (len : ℕ) : Type 0 where
  pub size : len ≤ 16384
  pub of_link : len ≤ window
  pub of_stream : len ≤ or_zero (send_window initial s)
