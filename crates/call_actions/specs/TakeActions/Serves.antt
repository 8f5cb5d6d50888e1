-- What the channel keeps of one call (`call_core`) for its application and for its attempts, of what a session has done so far: what came of the
-- response and was not taken, and the messages that were accepted. What else it keeps of a call is in `call_actions`.
-- Example: the head and two messages of a response came, and the application took the head. In the session three items came and 1 was taken; in the
-- channel two messages wait. The request had one message `hi`, and 3 of its 7 bytes were written for attempt 1: both have 4 bytes left for it.
use Rattle.std.specs.List.{AllByRecursion, list_all}
use Rattle.std.specs.Option.{option_map_or}
use Rattle.std.specs.Prelude.{Bool, List, None, Option, Some, [], drop, false, filter, is_some, length, map, suc, true, ℕ, ◌++◌, ◌≡◌, ◌≤◌, ◌∷◌}
use Rattle.attempt_buffer.specs.Buffers.{Buffered, taken_by, text_of}
use Rattle.call_actions.specs.Sees.{Sees}
use Rattle.call_core.specs.Laws as channel
use Rattle.call_core.specs.Steps.{Stepped}
use Rattle.grpc_base.specs.declared.event.Reply.{Reply}
use Rattle.grpc_frame.specs.Messages.{framed_all}
use Rattle.session_actions.specs.Attempts.{commitment, is_of, is_outstanding}
use Rattle.session_actions.specs.Configs.{config_of_call}
use Rattle.session_actions.specs.Deliveries.{response_items}
use Rattle.session_actions.specs.Links.{read_bytes}
use Rattle.session_actions.specs.Responses.{is_read_by, response}
use Rattle.session_actions.specs.Sessions.{link_seen}
use Rattle.session_actions.specs.Tokens.{run_of}
use Rattle.session_actions.specs.Words.{holds, numbered}
use Rattle.session_actions.specs.Writing.{drained}
use Rattle.session_actions.specs.declared.attempt.Attempt.{Attempt}
use Rattle.session_actions.specs.declared.call.Call.{Call}
use Rattle.session_actions.specs.declared.seen.Seen.{Seen}

-- each attempt stands at its place
abbrev pub AttemptsStandInPlace : ℕ → List Attempt → Type 0
AttemptsStandInPlace n [] = Unit {0}
AttemptsStandInPlace n (a ∷ others) = (a.place ≡ n) × AttemptsStandInPlace (suc n) others

-- what came of the response to which the call is committed: its head and its messages
abbrev pub came : Call → Seen → List Reply
came c s = option_map_or (λ k. response_items (response k s)) (commitment c s) []

-- of all that came so much was taken, and this is left
pub record IsLeft (all : List Reply) (taken : ℕ) (left : List Reply) : Type 0 where
  pub prefix : List Reply
  pub count : length prefix ≡ taken
  pub joined : all ≡ prefix ++ left

-- a place in the bytes that the channel holds, and one in all bytes of the accepted messages: the same bytes are after both
pub record IsAt (taken : ℕ) (held : List ℕ) (written : ℕ) (all : List ℕ) : Type 0 where
  pub left : drop taken held ≡ drop written all
  pub within : taken ≤ length held
  pub within_all : written ≤ length all

-- an attempt has a place there exactly while it is outstanding
abbrev pub IsFed : Option ℕ → List ℕ → Bool → ℕ → List ℕ → Type 0
IsFed None held false written all = Unit {0}
IsFed None held true written all = ⊥
IsFed (Some taken) held false written all = ⊥
IsFed (Some taken) held true written all = IsAt taken held written all

abbrev pub AttemptsAreFed : Seen → Call → Buffered → List Attempt → Type 0
AttemptsAreFed s c b attempts =
    AllByRecursion (λ a. IsFed (taken_by a.place b) (text_of b) (is_outstanding a) (drained a s) (framed_all c.messages)) attempts

-- how many bytes of the messages were written for the attempt to which the call is committed
abbrev pub passed : Buffered → ℕ
passed b = option_map_or (λ k. k.taken) b.committed 0

abbrev pub drained_so_far : Call → Seen → ℕ
drained_so_far c s = option_map_or (λ k. drained k s) (commitment c s) 0

-- the messages of an open call
pub record Holds (s : Seen) (c : Call) (b : Buffered) : Type 0 where
  pub fed : AttemptsAreFed s c b (filter (is_of c) s.attempts)
  pub held : IsAt (passed b) (text_of b) (drained_so_far c s) (framed_all c.messages)
  pub committed : is_some b.committed ≡ is_some (commitment c s)

-- an end that counted in the tokens is one of an attempt that ended
abbrev pub is_ended_at : Seen → ℕ → Bool
is_ended_at s place = holds (λ a. is_some a.row.ended) (numbered s.attempts place)

pub record Serves (s : Seen) (c : Call) (x : Stepped) : Type 0 where
  pub sees : Sees s c x
  pub places : AttemptsStandInPlace 1 s.attempts
  -- its configuration is one of those that were valid
  pub config : is_some c.config ≡ is_some (config_of_call c s)
  -- the links in the ledger, and whose ends its tokens count
  pub links : map link_seen s.links ≡ x.ledger.links
  -- no frame was read after the bytes that were read
  pub reads : list_all (λ l. list_all (is_read_by (read_bytes l)) l.traffic) s.links ≡ true
  pub counted : option_map_or (λ run. list_all (is_ended_at s) run.ends) (run_of c s) true ≡ true
  pub end_taken : c.end_taken ≡ x.call.inbox.is_end_taken
  pub going : c.end ≡ None → c.end_taken ≡ false
  pub left : c.end_taken ≡ false → IsLeft (came c s) c.taken (channel.came x.call)
  pub holds : c.end ≡ None → Holds s c x.call.buffer
