use Rattle.std.proofs.Common.{◌≡◌, ◌≤◌, ◌-◌, length, drop}
use Rattle.grpc_frame.specs.Messages.{messages_of}
use Rattle.grpc_frame.specs.Read.{before_all, kept}
use Rattle.grpc_frame.proofs.read.read_from.Given as goal

-- the messages so far, and those from here on, are those from the start on
abbrev pub invariant-loop-length : goal.invariant-loop-length
invariant-loop-length l =
    (l.at ≤ length l.bytes)
    × (before_all l.messages.items (kept (messages_of l.limit (drop l.at l.bytes))) ≡ before_all l.fn.messages.items (kept (messages_of l.limit (drop l.start l.bytes))))

abbrev pub decreases-loop-length : goal.decreases-loop-length
decreases-loop-length l = length l.bytes - l.at
