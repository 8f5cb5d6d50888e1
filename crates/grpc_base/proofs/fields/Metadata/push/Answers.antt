use Rattle.std.proofs.Common.{rules, ◌≡◌, ◌+◌, ◌≤◌, ◌++◌, ◌∷◌, [], length}
use Rattle.grpc_base.specs.Metadata.{IsMetaName, IsMetaValue, sent_length, meta_limit, meta_size}
use Rattle.grpc_base.proofs.MetaLaws.{IsRequestMetadata-push}
use Rattle.grpc_base.proofs.fields.Metadata.push.Goals as goal

-- what was tested is what the list keeps with the new pair
pub returns-clause-kept : goal.returns-clause-kept
returns-clause-kept c =
    let grown : c.push.new.self.items ≡ c.args.self.now ++ record { name = c.args.name.now; value = c.args.value.now } ∷ [] = search rules in
    let named : IsMetaName c.args.name.now = search rules in
    let valued : IsMetaValue c.args.name.now c.args.value.now = search rules in
    let room : meta_size c.args.self.now + (length c.args.name.now + sent_length c.args.name.now c.args.value.now + 32) ≤ meta_limit = search rules in
    IsRequestMetadata-push c.args.self.now _ c.args.name.now c.args.value.now grown named valued room
