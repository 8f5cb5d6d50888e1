-- A reader of messages as its caller sees it, and what it gives for bytes that come in pieces.
use Rattle.std.specs.Prelude.{◌≡◌, ℕ, ◌==◌, ◌&&◌, Bool, Option, Some, None, List, [], ◌++◌, length, is_none, if◌then◌else◌}
use Rattle.grpc_frame.specs.declared.next.MessageFault.{MessageFault}
use Rattle.grpc_frame.specs.declared.next.NextMessage.TheVariants as next
use Rattle.grpc_frame.specs.Messages.{Messages, messages_of, next_of}

-- the limit on a message, the bytes of a message that is not whole yet, and the fault, after which no byte is kept
pub record ReaderSeen : Type 0 where
  pub limit : ℕ
  pub rest : List ℕ
  pub fault : Option MessageFault

-- a reader that was fed a text with these messages
abbrev pub reader_after : ℕ → Messages → ReaderSeen
reader_after limit m = record { limit = limit; rest = if is_none m.fault then m.rest else []; fault = m.fault }

-- a reader that was fed a text
abbrev pub reader_of : ℕ → List ℕ → ReaderSeen
reader_of limit text = reader_after limit (messages_of limit text)

-- what a reader gives for some bytes more, and the reader then
pub record Given : Type 0 where
  pub messages : List (List ℕ)
  pub fault : Option MessageFault
  pub reader : ReaderSeen

abbrev pub given_by : ReaderSeen → Option MessageFault → List ℕ → Given
given_by r (Some f) bytes = record { messages = []; fault = Some f; reader = r }
given_by r None bytes =
    let m = messages_of r.limit (r.rest ++ bytes) in
    record { messages = m.whole; fault = m.fault; reader = reader_after r.limit m }

abbrev pub given : ReaderSeen → List ℕ → Given
given r bytes = given_by r r.fault bytes

-- whether all that was fed is whole messages
abbrev pub is_whole : ReaderSeen → Bool
is_whole r = is_none r.fault && (length r.rest == 0)

-- what every reader keeps: the rest is less than a message
pub record IsReader (r : ReaderSeen) : Type 0 where
  pub partial : next_of r.limit r.rest ≡ next.Partial
