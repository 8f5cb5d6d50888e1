-- The bytes of a session.
use Rattle.std.specs.Prelude.{ℕ, ◌+◌, List, [], length, min}
use Rattle.std.specs.List.{sum_by}
use Rattle.grpc_base.specs.declared.event.Entry.{Entry}
use Rattle.grpc_base.specs.declared.event.Event.{Event}
use Rattle.grpc_base.specs.declared.event.Event.TheVariants as event
use Rattle.grpc_base.specs.declared.event.Reply.{Reply}
use Rattle.grpc_base.specs.declared.event.Reply.TheVariants as reply
use Rattle.grpc_base.specs.Posts.{event_bytes}

-- the bytes that a reply gives to be written
abbrev pub given : Reply → List ℕ
given (reply.Octets octets) = octets
given _ = []

-- the bytes of an entry: 64, and those of its event; for a drain those that it gave
abbrev pub kept_bytes : Event → Reply → ℕ
kept_bytes (event.Drain link room) r = 64 + length (given r)
kept_bytes e r = event_bytes e

-- the bytes of a journal
abbrev pub journal_bytes : List Entry → ℕ
journal_bytes entries = sum_by (λ e. kept_bytes e.event e.reply) entries

-- a count of 64 bits, which stands still at its end
abbrev pub counted : ℕ → ℕ
counted n = min n 18446744073709551615
