-- What a drain takes of the messages of a call leaves the channel holding of them what the session has. That is for each attempt that goes on the bytes that were not
-- written, and for the call what the attempt to which it is committed has passed.
-- Example: call 1 has the message `hi`, of 7 bytes with its prefix, and DATA of 3 bytes is written for its attempt 1. The buffer of call 1 has 4 bytes left for
-- attempt 1; so has the session.
use Rattle.std.specs.Option.{option_map}
use Rattle.std.specs.Prelude.{Bool, IfSome, List, Some, [], drop, false, if◌then◌else◌, length, slice_get, true, ℕ, ◌∷◌, ◌≡◌, ◌≤◌}
use Rattle.attempt_buffer.specs.Buffers.{Buffered, Committed, left_of, taken_by, text_of}
use Rattle.call_actions.specs.Order.{AttemptsAreNumbered}
use Rattle.call_core.specs.Parts.{fed_buffer}
use Rattle.channel_actions.specs.DrainWrites.Laws.{RowsAgree}
use Rattle.grpc_frame.specs.Messages.{framed_all}
use Rattle.session_actions.specs.Attempts.{commitment, is_of, is_outstanding}
use Rattle.session_actions.specs.Writing.{drained}
use Rattle.session_actions.specs.declared.attempt.Attempt.{Attempt}
use Rattle.session_actions.specs.declared.call.Call.{Call}
use Rattle.session_actions.specs.declared.seen.Seen.{Seen}
use Rattle.call_actions.specs.TakeActions.Serves.{Holds}

-- what a buffer keeps in order: it is committed to the attempt to which its call is, open exactly while that goes on, and no other row is open then; and no row
-- took more than is held
pub record IsSoundBuffer (s : Seen) (c : Call) (b : Buffered) : Type 0 where
  pub rows : option_map (λ k. k.place) (commitment c s) ≡ option_map (λ m. m.row) b.committed
  pub goes : (m : Committed) (k : Attempt) → commitment c s ≡ Some k → b.committed ≡ Some m → is_outstanding k ≡ m.is_open
  pub alone : IfSome b.committed (λ m. m.is_open ≡ true → b.cursors ≡ [])
  pub within : (row taken : ℕ) → taken_by row b ≡ Some taken → taken ≤ length (text_of b)

-- what is left to send for an attempt
pub record IsLeftAt (t : Seen) (c : Call) (b : Buffered) (a : Attempt) : Type 0 where
  pub left : left_of a.place b ≡ drop (drained a t) (framed_all c.messages)
  pub within : drained a t ≤ length (framed_all c.messages)

-- rows take bytes, one after the other, where they are of a kind
abbrev pub fed_some : (ℕ → Bool) → List (ℕ × ℕ) → Buffered → Buffered
fed_some own [] b = b
fed_some own (f ∷ feeds) b = fed_some own feeds (if own f.0 then fed_buffer f.0 f.1 b else b)

-- nothing happened but that attempts have streams and that something passed on links
pub record IsOnlyStreamed (s t : Seen) : Type 0 where
  pub is : t ≡ record s { attempts = t.attempts; links = t.links; current = t.current }
  pub rows : RowsAgree s.attempts t.attempts

-- what is left of each attempt that goes on is what the session has, and of the others nothing was written: then the buffer holds what the session has
abbrev pub FeedsHold : Type 0
FeedsHold =
    (s t : Seen) (c : Call) (b : Buffered) (own : ℕ → Bool) (feeds : List (ℕ × ℕ)) → AttemptsAreNumbered 1 s.attempts → IsOnlyStreamed s t → Holds s c b → IsSoundBuffer s c b
    → ((i : ℕ) (a : Attempt) → slice_get t.attempts i ≡ Some a → is_of c a ≡ true → is_outstanding a ≡ true → IsLeftAt t c (fed_some own feeds b) a)
    → ((i : ℕ) (a z : Attempt) → slice_get s.attempts i ≡ Some a → slice_get t.attempts i ≡ Some z → is_outstanding a ≡ false → drained z t ≡ drained a s)
    → Holds t c (fed_some own feeds b)
