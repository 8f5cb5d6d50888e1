use Rattle.std.proofs.Common.{◌≡◌, Some, [], drop}
use Rattle.grpc_base.specs.Metadata.{IsRequestMetadata}
use Rattle.relay_request.specs.Pairs.{metadata_from}
use Rattle.relay_request.proofs.pairs.metadata_of.Given as goal

abbrev pub invariant-loop-pair : goal.invariant-loop-pair
invariant-loop-pair l = record {
  left : metadata_from (Some l.meta) (drop l.pair-index l.pair-items) ≡ metadata_from (Some []) l.fn.pairs;
  kept : IsRequestMetadata l.meta;
}
