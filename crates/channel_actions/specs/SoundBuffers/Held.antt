-- What a channel keeps in order of the messages that its calls hold, by itself and beside a session (gRFC A6, "Memory Management (Buffering)").
-- Example: call 1 is committed to row 2, which took 3 of the 7 bytes that are held. No other row has a place in them; and were row 2 to end, none would.
use Rattle.std.specs.List.{AllByRecursion}
use Rattle.std.specs.Prelude.{None, Some, [], is_some, length, true, ℕ, ◌≡◌, ◌≤◌}
use Rattle.attempt_buffer.specs.Buffers.{Buffered, Committed, taken_by, text_of}
use Rattle.call_core.specs.declared.state.CallState.{CallState}
use Rattle.channel_core.specs.States.{StateSeen}
use Rattle.channel_core.specs.declared.state.slots.CallSlot.{CallSlot}
use Rattle.session_actions.specs.Attempts.{commitment, is_outstanding}
use Rattle.session_actions.specs.declared.attempt.Attempt.{Attempt}
use Rattle.session_actions.specs.declared.call.Call.{Call}
use Rattle.session_actions.specs.declared.seen.Seen.{Seen}

-- of the channel alone
pub record HoldsSoundly (call : CallState) : Type 0 where
  -- no row took more than is held
  pub within : (row taken : ℕ) → taken_by row call.buffer ≡ Some taken → taken ≤ length (text_of call.buffer)
  -- messages that are held for one row are held for no other
  pub alone : (m : Committed) → call.buffer.committed ≡ Some m → call.buffer.cursors ≡ []
  -- they are only of a call that is committed; and while that row is open, the call is committed to it
  pub kept : (m : Committed) → call.buffer.committed ≡ Some m → is_some call.attempts.committed ≡ true
  pub row : (m : Committed) → call.buffer.committed ≡ Some m → m.is_open ≡ true → call.attempts.committed ≡ Some m.row
  -- of one that is not, every message is held from its first byte on, and no more than is kept for attempts to come
  pub whole : call.attempts.committed ≡ None → call.buffer.is_whole ≡ true
  pub room : call.attempts.committed ≡ None → length (text_of call.buffer) ≤ 262144

abbrev pub BuffersAreSound : StateSeen → Type 0
BuffersAreSound x = AllByRecursion (λ (slot : CallSlot). HoldsSoundly slot.call) x.book.calls

-- beside a session: while its row is open, the buffer is committed to the attempt to which the call is, and that goes on; else that attempt does not. (Where a
-- transparent retry takes a commitment over, the row is closed until the retry is placed.)
pub record IsSoundIn (s : Seen) (c : Call) (b : Buffered) : Type 0 where
  pub within : (row taken : ℕ) → taken_by row b ≡ Some taken → taken ≤ length (text_of b)
  pub alone : (m : Committed) → b.committed ≡ Some m → b.cursors ≡ []
  pub rows : (m : Committed) (k : Attempt) → commitment c s ≡ Some k → b.committed ≡ Some m → m.is_open ≡ true → m.row ≡ k.place
  pub goes : (m : Committed) (k : Attempt) → commitment c s ≡ Some k → b.committed ≡ Some m → is_outstanding k ≡ m.is_open
