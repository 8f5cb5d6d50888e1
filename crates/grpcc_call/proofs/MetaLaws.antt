-- The metadata of a request that has none.
use Rattle.std.proofs.Common.{◌≡◌, List, [], arith, subst, sym}
use Rattle.std.proofs.lemmas.List.Elements.{All-nil}
use Rattle.grpc_base.specs.Metadata.{IsPair, IsRequestMetadata}
use Rattle.grpc_base.specs.declared.fields.Field.{Field}

none_kept : IsRequestMetadata []
none_kept = record { pairs_are = All-nil IsPair; within = omega arith }

pub none_is : (meta : List Field) → meta ≡ [] → IsRequestMetadata meta
none_is meta is = subst IsRequestMetadata (sym is) none_kept
