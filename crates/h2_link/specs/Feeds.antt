-- What a link asks of the feed that gives it requests and their bytes.
use Rattle.std.specs.Prelude.{◌≡◌, ℕ, ◌==◌, Bool, true, if◌then◌else◌, List, drop}
use Rattle.std.specs.List.{AllByRecursion}
use Rattle.grpc_base.specs.declared.fields.Field.{Field}
use Rattle.h2_link.specs.declared.live.LiveStream.{LiveStream}
use Rattle.h2_link.specs.Wire.{Wire}

-- what a feed has for a tag
pub record Line : Type 0 where
  -- whether it holds the tag at all
  pub held : Bool
  -- the request's header list
  pub fields : List Field
  -- the bytes of DATA that are left, and whether none will be added
  pub left : List ℕ
  pub finished : Bool

-- the lines after so many bytes of a tag were taken
abbrev pub fed : (ℕ → Line) → ℕ → ℕ → ℕ → Line
fed lines tag len t = if t == tag then record (lines t) { left = drop len (lines t).left } else lines t

-- the feed holds each tag that waits or has a live stream
pub record Holds (w : Wire) (g : ℕ → Line) : Type 0 where
  pub waiting : AllByRecursion (λ t. (g t).held ≡ true) w.waiting
  pub live : AllByRecursion (λ (s : LiveStream). (g s.tag).held ≡ true) w.live
