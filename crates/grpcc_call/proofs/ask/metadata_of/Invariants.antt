use Rattle.grpc_base.specs.Metadata.{IsRequestMetadata}
use Rattle.grpcc_call.proofs.ask.metadata_of.Given as goal

-- so far it is the metadata of a request
abbrev pub invariant-loop-header : goal.invariant-loop-header
invariant-loop-header l = IsRequestMetadata l.meta
