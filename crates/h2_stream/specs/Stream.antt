-- What a stream is to a caller (RFC 9113, sections 5.1 and 5.2).
use Rattle.std.specs.Prelude.{ℕ, ℤ, pos, negsuc, neg_ℤ, ◌≤ℤ◌, Bool, false, if◌then◌else◌}
use Rattle.h2_stream.specs.declared.state.StreamState.{StreamState}
use Rattle.h2_stream.specs.declared.state.StreamState.TheVariants.{Open}
use Rattle.h2_stream.specs.State.{is_closed_locally}

pub record StreamView : Type 0 where
  pub state : StreamState
  -- the peer's head, its first header block, has come
  pub head : Bool
  -- how many octets of DATA the peer still takes; below 0 after a smaller SETTINGS_INITIAL_WINDOW_SIZE (section 6.9.2)
  pub send : ℤ
  -- how many octets of DATA the peer may still send
  pub receive : ℤ

-- no window may pass 2^31-1 (section 6.9.1)
abbrev pub largest_window : ℤ
largest_window = pos 2147483647

-- a size that a window may begin with
pub record IsWindow (size : ℤ) : Type 0 where
  pub low : pos 0 ≤ℤ size
  pub high : size ≤ℤ largest_window

-- what always holds of a stream's windows
pub record IsWithinBounds (s : StreamView) : Type 0 where
  pub send_low : neg_ℤ largest_window ≤ℤ s.send
  pub send_high : s.send ≤ℤ largest_window
  pub receive : IsWindow s.receive

-- a stream that HEADERS have just opened, with these windows
abbrev pub opened : ℤ → ℤ → StreamView
opened send receive = record { state = Open; head = false; send = send; receive = receive }

-- an integer, or 0 in place of one below 0
abbrev pub or_zero : ℤ → ℕ
or_zero (pos n) = n
or_zero (negsuc n) = 0

-- how many octets of DATA may be sent now
abbrev pub sendable : StreamView → ℕ
sendable s = if is_closed_locally s.state then 0 else or_zero s.send
