-- A frame that is written stirs no line of the session's definition: nothing follows at once from it that did not before. And an attempt that gets its stream is
-- as before in all that is due of its call.
-- Example: HEADERS are written for attempt 1, which waited. It has stream 1 from then on; no call ends by that, no attempt does, and none is due.
use Rattle.std.specs.Prelude.{None, Some, false, true, ℕ, slice_get, ◌==◌, ◌≡◌}
use Rattle.call_actions.specs.Order.{AttemptsAreNumbered}
use Rattle.grpc_base.specs.declared.event.Event.TheVariants as event
use Rattle.h2_frame.specs.Frames.{FrameSeen}
use Rattle.h2_frame.specs.Numbers.{headers_type}
use Rattle.session_actions.specs.Responses.{limit_of_attempt, response_in}
use Rattle.session_actions.specs.Words.{numbered}
use Rattle.session_actions.specs.Writing.{frame_written, waiting_on}
use Rattle.session_actions.specs.declared.attempt.Attempt.{Attempt}
use Rattle.session_actions.specs.declared.entry.OpenEntry.{OpenEntry}
use Rattle.session_actions.specs.declared.link.Link.{Link}
use Rattle.session_actions.specs.declared.link.Sent.{Sent}
use Rattle.session_actions.specs.declared.link.Sent.TheVariants as sent
use Rattle.session_actions.specs.declared.response.Response.{Response}
use Rattle.session_actions.specs.declared.seen.Seen.{Seen}
use Rattle.session_order.specs.Quiescent.{IsStill}
use Rattle.session_order.specs.declared.line.Line.{Line}

-- nothing came yet
pub record IsBlank (p : Response) : Type 0 where
  pub head : p.head ≡ None
  pub end : p.end ≡ None
  pub large : p.large ≡ false

-- what is asked: attempts have the numbers of their places, the link has its own, and on a stream that HEADERS open nothing came yet (RFC 9113, section 5.1.1)
pub record CanWrite (l : Link) (x : Sent) (s : Seen) : Type 0 where
  pub places : AttemptsAreNumbered 1 s.attempts
  pub at : numbered s.links l.number ≡ Some l
  pub blank : (f : FrameSeen) (a : Attempt) → x ≡ sent.Frame f → (f.kind == headers_type) ≡ true → slice_get (waiting_on l s) 0 ≡ Some a
      → IsBlank (response_in (limit_of_attempt a s) f.stream l.traffic)

-- in an entry that drains a link
abbrev pub WritesStirNothing : Type 0
WritesStirNothing =
    (link room : ℕ) (l : Link) (x : Sent) (o p : OpenEntry) (s : Seen) (m : Line) → s.current ≡ Some o → o.event ≡ event.Drain link room → CanWrite l x s
    → (frame_written l.number x s).current ≡ Some p → IsStill m o s → IsStill m p (frame_written l.number x s)
