use Rattle.std.proofs.Common.{◌≡◌, take}
use Rattle.grpc_meta.specs.ResponseFields.{shown_of}
use Rattle.grpc_meta.proofs.response.shown.Given as goal

-- what the fields so far show
abbrev pub invariant-loop-field : goal.invariant-loop-field
invariant-loop-field l = l.pairs.items ≡ shown_of (take l.field-index l.field-items)
