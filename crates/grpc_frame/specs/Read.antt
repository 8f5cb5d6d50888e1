-- Words of the reader's own functions; no public promise speaks of them.
use Rattle.std.specs.Prelude.{◌≡◌, ℕ, ◌+◌, List, [], ◌++◌, is_none, if◌then◌else◌}
use Rattle.grpc_frame.specs.declared.next.NextMessage.{NextMessage}
use Rattle.grpc_frame.specs.declared.next.NextMessage.TheVariants as next
use Rattle.grpc_frame.specs.declared.read.Read.{Read}
use Rattle.grpc_frame.specs.Messages.{Messages}

-- what was read
abbrev pub reported : Read → Messages
reported r = record { whole = r.messages.items; rest = r.rest.items; fault = r.fault }

-- the rest is kept where there is no fault
abbrev pub kept : Messages → Messages
kept m = record m { rest = if is_none m.fault then m.rest else [] }

-- messages before others
abbrev pub before_all : List (List ℕ) → Messages → Messages
before_all messages m = record m { whole = messages ++ m.whole }

-- a message that has begun has come as far as it could: to its end, to its fault, or to the end of the bytes
abbrev pub IsAsFar : NextMessage → ℕ → Type 0 → Type 0
IsAsFar (next.Whole len) size All = size ≡ 5 + len
IsAsFar next.Partial size All = All
IsAsFar (next.Fault f) size All = Unit {0}
