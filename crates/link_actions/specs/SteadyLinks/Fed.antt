-- What attempts are fed with, when their call or the moment changes: the lines of one call, changed; and all lines, with the header lists of a moment.
-- Example: call 1 has the attempts 1 and 3. The message `hi` is accepted of it: the lines of 1 and 3 have the bytes 00 00000002 6869 more.
use Rattle.std.specs.Prelude.{List, Some, if◌then◌else◌, true, ℕ, ◌++◌, ◌==◌, ◌≡◌}
use Rattle.grpc_frame.specs.Messages.{framed}
use Rattle.grpc_meta.specs.RequestFields.{fields_of_request}
use Rattle.h2_link.specs.Feeds.{Line}
use Rattle.session_actions.specs.Attempts.{call_of}
use Rattle.session_actions.specs.Words.{numbered}
use Rattle.session_actions.specs.Writing.{time_left}
use Rattle.session_actions.specs.declared.attempt.Attempt.{Attempt}
use Rattle.session_actions.specs.declared.call.Call.{Call}
use Rattle.session_actions.specs.declared.seen.Seen.{Seen}

-- a line with one message more; one to which nothing is added any more; one with another header list
abbrev pub with_message_left : List ℕ → Line → Line
with_message_left message line = record line { left = line.left ++ framed message }

abbrev pub with_end : Line → Line
with_end line = record line { finished = true }

-- the lines of the attempts of one call are changed, and the others are not
abbrev pub LinesAreChangedOf : ℕ → (Line → Line) → Seen → (ℕ → Line) → (ℕ → Line) → Type 0
LinesAreChangedOf call f s g h =
    (a : Attempt) → numbered s.attempts a.place ≡ Some a → h a.place ≡ (if a.row.call == call then f (g a.place) else g a.place)

-- each line has the header list that its request has in a session
abbrev pub LinesAreOfMoment : Seen → Seen → (ℕ → Line) → (ℕ → Line) → Type 0
LinesAreOfMoment s t g h =
    (a : Attempt) (c : Call) → numbered s.attempts a.place ≡ Some a → call_of a s ≡ Some c
    → h a.place ≡ record (g a.place) { fields = fields_of_request c.request s.setup.authority (time_left c t) a.row.number }
