-- What the calls inside answer, beside the state that they leave.
use Rattle.std.specs.Prelude.{◌≡◌, ◌<◌, ◌≤◌, ℕ, Bool, true, false, List, ◌++◌, length, Option, Some, None, Result, Ok, Err}
use Rattle.h2_link.specs.declared.news.LinkNews.{LinkNews}
use Rattle.h2_link.specs.Drains.{Sent, octets_of}
use Rattle.h2_link.specs.Feeds.{Line}
use Rattle.h2_link.specs.LinkErrors.{send_window}
use Rattle.h2_link.specs.declared.send.Share.{Share}
use Rattle.h2_stream.specs.Stream.{or_zero}
use Rattle.h2_link.specs.Wire.{Wire, Report}

abbrev pub outcome_of : Result (List LinkNews) ℕ → Wire → Result Report ℕ
outcome_of (Ok n) w = Ok (record { wire = w; news = n })
outcome_of (Err code) w = Err code

abbrev pub prefix_reported : Option (ℕ × List LinkNews) → Wire → Option (ℕ × Report)
prefix_reported None w = None
prefix_reported (Some x) w = Some (x.0, record { wire = w; news = x.1 })

-- what came of what stands next: it went, and fits, or nothing changed, since nothing does or it does not fit
abbrev pub WentAs : Bool → ℕ → Wire → (ℕ → Line) → List ℕ → Option Sent → Wire → (ℕ → Line) → List ℕ → Type 0
WentAs true left w g out None w2 g2 out2 = ⊥
WentAs true left w g out (Some s) w2 g2 out2 =
    (w2 ≡ s.wire) × (g2 ≡ s.lines) × (out2 ≡ out ++ octets_of s.frame) × (length (octets_of s.frame) ≤ left)
WentAs false left w g out None w2 g2 out2 = (w2 ≡ w) × (g2 ≡ g) × (out2 ≡ out)
WentAs false left w g out (Some s) w2 g2 out2 =
    (w2 ≡ w) × (g2 ≡ g) × (out2 ≡ out) × (left < length (octets_of s.frame))

-- DATA that may be sent
pub record ShareFits (w : Wire) (g : ℕ → Line) (x : Share) : Type 0 where
  pub held : (g x.stream.tag).held ≡ true
  pub there : x.len ≤ length (g x.stream.tag).left
  pub place : x.place < length w.live
  pub window : x.len ≤ w.window
  pub own : x.len ≤ or_zero (send_window w.initial x.stream)
  pub size : x.len ≤ 16384
