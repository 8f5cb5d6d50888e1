use Rattle.std.proofs.Common.{◌≡◌, ◌++◌, ◌∙◌, List, OnOk, subst, arith}
use Rattle.grpc_base.specs.declared.fields.Field.{Field}
use Rattle.grpc_meta.proofs.RequestLaws.{attempt_fields-later}
use Rattle.grpc_meta.proofs.request.push_attempts.Goals as goal

pub returns : goal.returns
returns c =
    subst (λ (fs : List Field). OnOk c.push.result (c.push.new.fields ≡ c.args.fields.now ++ fs))
    (attempt_fields-later c.args.number _ (omega arith) (c.as_bytes.ensures.value ∙ c.format-before.ensures.text)) c.push.ensures
