-- What an open call holds of its messages, beside all that were accepted of it: no more bytes, and fewer once it does not hold every message from its first byte on
-- (gRFC A6, "Memory Management (Buffering)").
-- Example: messages of 7 and 9 bytes were accepted, prefixes included. The call holds 16 bytes. Once it is committed to an attempt that took 8 of them, the first
-- message is given up, and it holds 9.
use Rattle.std.specs.Prelude.{None, Some, false, length, ℕ, ◌<◌, ◌≡◌, ◌≤◌}
use Rattle.attempt_buffer.specs.Buffers.{Buffered, text_of}
use Rattle.channel_core.specs.Books.{slot_at}
use Rattle.channel_core.specs.States.{StateSeen}
use Rattle.channel_core.specs.declared.state.slots.CallSlot.{CallSlot}
use Rattle.session_actions.specs.Words.{numbered}
use Rattle.session_actions.specs.Writing.{accepted_bytes}
use Rattle.session_actions.specs.declared.call.Call.{Call}
use Rattle.session_actions.specs.declared.seen.Seen.{Seen}

pub record FitsText (c : Call) (b : Buffered) : Type 0 where
  pub most : length (text_of b) ≤ accepted_bytes c
  pub less : b.is_whole ≡ false → length (text_of b) < accepted_bytes c

abbrev pub TextsFit : StateSeen → Seen → Type 0
TextsFit x s =
    (number : ℕ) (c : Call) (slot : CallSlot) → numbered s.calls number ≡ Some c → slot_at x.book number ≡ Some slot → c.end ≡ None → FitsText c slot.call.buffer
