use Rattle.std.proofs.Common.{◌≡◌, Option, IfOk, subst, ℕ, List}
use Rattle.std.specs.Option.{option_map}
use Rattle.base64.specs.GeneralPurpose.{decoded_of}
use Rattle.base64.specs.Engines.{standard, standard_no_pad}
use Rattle.grpc_meta.proofs.BinaryLaws.{read-of_other, read-of_whole}
use Rattle.grpc_meta.proofs.binary.read_base64.Goals as goal

pub returns-then-text-eq0 : goal.returns-then-text-eq0
unfolding decoded_of
returns-then-text-eq0 c =
    let read : IfOk c.decoded.result (λ o. option_map (λ v. v.items) o ≡ decoded_of standard c.args.text.now) = c.decoded.ensures in
    subst (λ (b : Option (List ℕ)). IfOk c.decoded.result (λ o. option_map (λ v. v.items) o ≡ b)) (read-of_whole c.args.text.now c.if-text-eq0.true) read

pub returns-else-text-eq0 : goal.returns-else-text-eq0
unfolding decoded_of
returns-else-text-eq0 c =
    let read : IfOk c.decoded-else-text-eq0.result (λ o. option_map (λ v. v.items) o ≡ decoded_of standard_no_pad c.args.text.now) = c.decoded-else-text-eq0.ensures in
    subst (λ (b : Option (List ℕ)). IfOk c.decoded-else-text-eq0.result (λ o. option_map (λ v. v.items) o ≡ b)) (read-of_other c.args.text.now c.if-text-eq0.false) read
