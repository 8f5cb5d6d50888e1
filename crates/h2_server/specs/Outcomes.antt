-- What the calls inside answer, beside the state that they leave.
use Rattle.std.specs.Prelude.{◌≡◌, ◌<◌, ◌≤◌, ℕ, ◌+◌, Bool, true, false, List, ◌++◌, length, Option, Some, None, Result, Ok, Err}
use Rattle.h2_server.specs.declared.live.LiveStream.{LiveStream}
use Rattle.h2_server.specs.declared.news.RequestNews.{RequestNews}
use Rattle.h2_server.specs.declared.share.Share.{Share}
use Rattle.h2_server.specs.LinkErrors.{send_window}
use Rattle.h2_server.specs.Sends.{Sent}
use Rattle.h2_server.specs.Wire.{Block, Seen, Wire, Report}
use Rattle.h2_stream.specs.Stream.{or_zero}

abbrev pub outcome_of : Result (Option RequestNews) ℕ → Wire → Result Report ℕ
outcome_of (Ok n) w = Ok (record { wire = w; news = n })
outcome_of (Err code) w = Err code

abbrev pub prefix_reported : Option (ℕ × Option RequestNews) → Wire → Option (ℕ × Report)
prefix_reported None w = None
prefix_reported (Some x) w = Some (x.0, record { wire = w; news = x.1 })

-- what came of what stands next: it went, and fits, or nothing changed, since nothing does or it does not fit
abbrev pub WentAs : Bool → ℕ → Wire → List ℕ → Option Sent → Wire → List ℕ → Type 0
WentAs true room w out None w2 out2 = ⊥
WentAs true room w out (Some s) w2 out2 = (w2 ≡ s.wire) × (out2 ≡ out ++ s.octets) × (length s.octets ≤ room)
WentAs false room w out None w2 out2 = (w2 ≡ w) × (out2 ≡ out)
WentAs false room w out (Some s) w2 out2 = (w2 ≡ w) × (out2 ≡ out) × (room < length s.octets)

-- a share keeps both windows and the size of a frame, and is there
pub record ShareFits (w : Wire) (s : LiveStream) (left : ℕ) (share : Share) : Type 0 where
  pub there : share.len ≤ left
  pub window : share.len ≤ w.window
  pub own : share.len ≤ or_zero (send_window w.initial s)
  pub size : share.len ≤ 16384

-- how many bytes of input a link holds
abbrev pub kept_bytes_of : Option Block → ℕ
kept_bytes_of None = 0
kept_bytes_of (Some block) = length block.bytes

abbrev pub kept_bytes : Seen → ℕ
kept_bytes l = length l.rest + kept_bytes_of l.wire.block
