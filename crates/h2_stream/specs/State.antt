-- The states of RFC 9113, section 5.1, from the HEADERS that open a stream on.
use Rattle.std.specs.Prelude.{Bool, true, false}
use Rattle.h2_stream.specs.declared.state.StreamState.{StreamState}
use Rattle.h2_stream.specs.declared.state.StreamState.TheVariants.{Open, HalfClosedLocal, HalfClosedRemote, Closed}

-- this side has sent END_STREAM
abbrev pub is_closed_locally : StreamState → Bool
is_closed_locally Open = false
is_closed_locally HalfClosedLocal = true
is_closed_locally HalfClosedRemote = false
is_closed_locally Closed = true

-- the peer has sent END_STREAM
abbrev pub is_closed_remotely : StreamState → Bool
is_closed_remotely Open = false
is_closed_remotely HalfClosedLocal = false
is_closed_remotely HalfClosedRemote = true
is_closed_remotely Closed = true

-- both sides have
abbrev pub is_closed : StreamState → Bool
is_closed Open = false
is_closed HalfClosedLocal = false
is_closed HalfClosedRemote = false
is_closed Closed = true

-- the arrows of the section's diagram for "send ES" and "recv ES"
abbrev pub after_local_end : StreamState → StreamState
after_local_end Open = HalfClosedLocal
after_local_end HalfClosedLocal = HalfClosedLocal
after_local_end HalfClosedRemote = Closed
after_local_end Closed = Closed

abbrev pub after_remote_end : StreamState → StreamState
after_remote_end Open = HalfClosedRemote
after_remote_end HalfClosedLocal = Closed
after_remote_end HalfClosedRemote = HalfClosedRemote
after_remote_end Closed = Closed
