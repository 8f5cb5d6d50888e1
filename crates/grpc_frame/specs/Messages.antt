-- Messages as they are framed (gRPC over HTTP/2, "Length-Prefixed-Message").
use Rattle.std.specs.Prelude.{◌≡◌, ◌≤◌, ℕ, zero, suc, ◌+◌, ◌*◌, Option, Some, None, List, [], ◌∷◌, ◌++◌, length, take, drop, nat_lt, nat_le, if◌then◌else◌, flat_map}
use Rattle.std.specs.List.{AllByRecursion}
use Rattle.h2_frame.specs.Frames.{bytes_32}
use Rattle.grpc_frame.specs.declared.next.MessageFault.{MessageFault}
use Rattle.grpc_frame.specs.declared.next.MessageFault.TheVariants as fault
use Rattle.grpc_frame.specs.declared.next.NextMessage.{NextMessage}
use Rattle.grpc_frame.specs.declared.next.NextMessage.TheVariants as next

-- a message: a flag 0, for it is not compressed, its length in four bytes, and its bytes
abbrev pub framed : List ℕ → List ℕ
framed message = 0 ∷ bytes_32 (length message) ++ message

-- messages one after another
abbrev pub framed_all : List (List ℕ) → List ℕ
framed_all messages = flat_map framed messages

-- the length that a prefix has, where all of it is there: a flag 0 and four bytes, the highest first
abbrev pub length_reported : List ℕ → Option ℕ
length_reported (zero ∷ a ∷ b ∷ c ∷ d ∷ text) = Some (a * 16777216 + b * 65536 + c * 256 + d)
length_reported _ = None

-- a message of this length, of which so many bytes are there, its prefix with them
abbrev pub next_by : ℕ → ℕ → Option ℕ → NextMessage
next_by limit size None = next.Partial
next_by limit size (Some len) =
    if nat_lt limit len then next.Fault (fault.TooLarge len) else if nat_le (5 + len) size then next.Whole len else next.Partial

-- what stands at the start of a text: a message of so many bytes after its prefix, less than one, or a fault, which is
-- reported as soon as a flag other than 0 or the length is there
abbrev pub next_of : ℕ → List ℕ → NextMessage
next_of limit [] = next.Partial
next_of limit (zero ∷ text) = next_by limit (length (zero ∷ text)) (length_reported (zero ∷ text))
next_of limit (suc flag ∷ text) = next.Fault fault.BadFlag

-- the whole messages at the start of a text, what is after them, and what is wrong with it
pub record Messages : Type 0 where
  pub whole : List (List ℕ)
  pub rest : List ℕ
  pub fault : Option MessageFault

-- one message before others
abbrev pub before : List ℕ → Messages → Messages
before message m = record m { whole = message ∷ m.whole }

abbrev pub messages_by : NextMessage → List ℕ → (List ℕ → Messages) → Messages
messages_by (next.Whole len) text afterwards = before (take len (drop 5 text)) (afterwards (drop len (drop 5 text)))
messages_by next.Partial text afterwards = record { whole = []; rest = text; fault = None }
messages_by (next.Fault f) text afterwards = record { whole = []; rest = text; fault = Some f }

-- the messages of a text, so many at most; each takes bytes away
abbrev pub messages_within : ℕ → ℕ → List ℕ → Messages
messages_within limit zero text = record { whole = []; rest = text; fault = None }
messages_within limit (suc most) text = messages_by (next_of limit text) text (messages_within limit most)

-- the messages of a text, none of them longer than the limit
abbrev pub messages_of : ℕ → List ℕ → Messages
messages_of limit text = messages_within limit (length text) text

-- what stands at the start of a rest
abbrev pub next_reported : Option MessageFault → NextMessage
next_reported None = next.Partial
next_reported (Some f) = next.Fault f

-- the same as a grammar: the text is these messages, framed one after the other, and a rest that is less than a message or
-- at fault
pub record AreMessages (limit : ℕ) (text : List ℕ) (m : Messages) : Type 0 where
  pub joined : text ≡ framed_all m.whole ++ m.rest
  pub within : AllByRecursion (λ message. length message ≤ limit) m.whole
  pub rest : next_of limit m.rest ≡ next_reported m.fault
