use Rattle.std.proofs.Common.{◌≡◌, ◌++◌, take}
use Rattle.std.specs.List.{flat_map}
use Rattle.grpc_meta.specs.Base64.{bytes_of_base64}
use Rattle.grpc_meta.specs.ResponseFields.{pair_if_read}
use Rattle.grpc_meta.proofs.binary.push_binary.Given as goal

-- the pairs of the texts so far are appended
abbrev pub invariant-loop-text : goal.invariant-loop-text
invariant-loop-text l = l.pairs.items ≡ l.initial.pairs.items ++ flat_map (λ text. pair_if_read l.field.name (bytes_of_base64 text.now)) (take l.text-index l.text-items)
