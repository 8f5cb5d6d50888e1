use Rattle.grpc_base.specs.Metadata.{IsRequestMetadata}
use Rattle.wire_rows.proofs.metadata.metadata_of.Given as goal

-- the pairs so far are those of a request
abbrev pub invariant-loop-field : goal.invariant-loop-field
invariant-loop-field l = IsRequestMetadata l.meta
