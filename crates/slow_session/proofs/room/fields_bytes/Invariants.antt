use Rattle.std.proofs.Common.{◌≡◌, ◌+◌, drop}
use Rattle.grpc_base.specs.Posts.{fields_bytes}
use Rattle.slow_session.proofs.room.fields_bytes.Given as goal

-- the bytes so far, and those of the fields that are left
abbrev pub invariant-loop-field : goal.invariant-loop-field
invariant-loop-field l = l.bytes + fields_bytes (drop l.field-index l.fields) ≡ fields_bytes l.fn.fields
