-- What came of the responses to a call's attempts, and what was written of its messages, while something else passes on the links.
-- Example: on link 1 the calls 1 and 2 have the streams 1 and 3. DATA on stream 3 is of call 2: what came for call 1 is as before, and what was written of
-- its messages too. A GOAWAY that leaves stream 3 out ends the attempt of call 2.
use Rattle.std.specs.List.{list_any}
use Rattle.std.specs.Prelude.{Bool, false, length, true, ℕ, Some, ◌&&◌, ◌+◌, ◌==◌, ◌||◌, ◌≡◌}
use Rattle.session_actions.specs.Attempts.{is_of}
use Rattle.session_actions.specs.Deliveries.{response_items}
use Rattle.session_actions.specs.Responses.{response}
use Rattle.session_actions.specs.Words.{holds, numbered}
use Rattle.session_actions.specs.Writing.{drained}
use Rattle.session_actions.specs.declared.action.Action.{Action}
use Rattle.session_actions.specs.declared.action.Action.TheVariants as action
use Rattle.session_actions.specs.declared.attempt.Attempt.{Attempt}
use Rattle.session_actions.specs.declared.call.Call.{Call}
use Rattle.session_actions.specs.declared.link.Link.{Link}
use Rattle.session_actions.specs.declared.link.Sent.{Sent}
use Rattle.session_actions.specs.declared.link.Sent.TheVariants as sent
use Rattle.session_actions.specs.declared.seen.Seen.{Seen}

-- what came, and what was written, of each attempt of a call is as before
pub record IsReceivedAlike (s t : Seen) (c : Call) : Type 0 where
  pub came : (place : ℕ) (a : Attempt) → numbered s.attempts place ≡ Some a → is_of c a ≡ true → response_items (response a t) ≡ response_items (response a s)
  pub written : (place : ℕ) (a : Attempt) → numbered s.attempts place ≡ Some a → is_of c a ≡ true → drained a t ≡ drained a s

-- a frame is of a stream of the call: of one of its attempts, on its link. (0 is no stream of an attempt: what is sent on it is of the whole link.)
abbrev pub is_on : ℕ → Attempt → Bool
is_on link a = holds (λ at. at.link == link) a.row.placed

abbrev pub is_stream_of : Call → ℕ → Link → Attempt → Bool
is_stream_of c stream l a = is_of c a && is_on l.number a && holds (λ own. (own == 0) || (stream == own)) a.row.stream

abbrev pub has_stream : Call → Seen → ℕ → Link → Bool
has_stream c s stream l = list_any (is_stream_of c stream l) s.attempts

abbrev pub stream_of_sent : Call → Seen → Sent → Link → Bool
stream_of_sent c s sent.Preface l = false
stream_of_sent c s (sent.Frame f) l = has_stream c s f.stream l

-- what passes on a link is of the call where its stream is; and no attempt is placed on a link that comes up only now
abbrev pub passes_on : Action → Seen → Call → Bool
passes_on (action.FrameRead link r) s c = holds (has_stream c s r.frame.stream) (numbered s.links link)
passes_on (action.FrameWritten link x) s c = holds (stream_of_sent c s x) (numbered s.links link)
passes_on (action.LinkUp sub) s c = list_any (λ a. is_of c a && is_on (length s.links + 1) a) s.attempts
passes_on _ s c = false
