use Rattle.std.proofs.Common.{◌≡◌, ◌++◌, take, map}
use Rattle.grpc_meta.specs.RequestFields.{sent}
use Rattle.relay_response.proofs.fields.push_metadata.Given as goal

-- the pairs so far are appended as they are sent
abbrev pub invariant-loop-pair : goal.invariant-loop-pair
invariant-loop-pair l = l.fields ≡ l.initial.fields ++ map sent (take l.pair-index l.pair-items)
