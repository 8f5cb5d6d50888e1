use Rattle.std.proofs.Common.{◌≡◌, ◌++◌, ◌∷◌, [], ◌∙◌, List, OnOk, ap, sym, subst, codes}
use Rattle.grpc_base.specs.declared.fields.Field.{Field}
use Rattle.grpc_meta.specs.RequestFields.{field, timeout_fields}
use Rattle.grpc_meta.proofs.request.push_timeout.Goals as goal

pub returns-in-Some : goal.returns-in-Some
returns-in-Some c =
    subst (λ (fs : List Field). OnOk c.push.result (c.push.new.fields ≡ c.args.fields.now ++ fs))
    (ap (λ v. field (codes "grpc-timeout") v ∷ []) (c.as_slice.ensures ∙ c.timeout_text.ensures.text) ∙ ap timeout_fields (sym c.in-Some.is)) c.push.ensures
