use Rattle.std.proofs.Common.{◌≡◌, true, rules}
use Rattle.base64.specs.GeneralPurpose.{encode_of}
use Rattle.base64.specs.Engines.{standard_no_pad}
use Rattle.grpc_base.specs.Metadata.{is_binary_name}
use Rattle.grpc_meta.proofs.BinaryLaws.{sent-encoded}
use Rattle.relay_response.proofs.fields.sent.Goals as goal

pub returns : goal.returns
returns c =
    let binary : is_binary_name c.args.pair.now.name ≡ true = search rules in
    let name : c.in_ok-name.name ≡ c.args.pair.now.name = search rules in
    let value : c.in_ok-value.value ≡ encode_of standard_no_pad c.args.pair.now.value = search rules in
    sent-encoded c.args.pair.now c.in_ok-name.name c.in_ok-value.value binary name value
