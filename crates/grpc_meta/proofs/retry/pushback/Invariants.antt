use Rattle.std.proofs.Common.{◌≡◌, take, codes}
use Rattle.grpc_meta.specs.ResponseFields.{pushback_of, values_of}
use Rattle.grpc_meta.proofs.retry.pushback.Given as goal

-- what the fields so far say
abbrev pub invariant-loop-field : goal.invariant-loop-field
invariant-loop-field l = l.found ≡ pushback_of (values_of (codes "grpc-retry-pushback-ms") (take l.field-index l.field-items))
