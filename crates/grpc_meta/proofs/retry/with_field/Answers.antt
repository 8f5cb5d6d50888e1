use Rattle.std.proofs.Common.{◌≡◌, ◌∙◌, ap, sym, true, false, codes, bytes_eq}
use Rattle.grpc_meta.specs.ResponseFields.{delay_of, pushback_of, values_of}
use Rattle.grpc_meta.proofs.ResponseLaws.{values_of-other, values_of-same, pushback_of-first, pushback_of-more}
use Rattle.grpc_meta.proofs.retry.with_field.Goals as goal

pub returns-then-not-is_pushback_name : goal.returns-then-not-is_pushback_name
returns-then-not-is_pushback_name c = λ before e.
    let other : bytes_eq c.args.field.now.name (codes "grpc-retry-pushback-ms") ≡ false = rw c.as_slice.ensures at (sym c.if-not-is_pushback_name.ensures) in
    e ∙ ap pushback_of (sym (values_of-other _ before c.args.field.now other))

pub returns-in-None : goal.returns-in-None
returns-in-None c = λ before e.
    let same : bytes_eq c.args.field.now.name (codes "grpc-retry-pushback-ms") ≡ true = rw c.as_slice.ensures at (sym c.if-not-is_pushback_name.ensures) in
    c.delay_of.ensures ∙ ap delay_of c.as_slice-in-None.ensures
    ∙ sym (ap pushback_of (values_of-same _ before c.args.field.now same) ∙ pushback_of-first (values_of (codes "grpc-retry-pushback-ms") before) c.args.field.now.value (sym c.in-None.is ∙ e))

pub returns-in_default : goal.returns-in_default
returns-in_default c = λ before e.
    let same : bytes_eq c.args.field.now.name (codes "grpc-retry-pushback-ms") ≡ true = rw c.as_slice.ensures at (sym c.if-not-is_pushback_name.ensures) in
    sym (ap pushback_of (values_of-same _ before c.args.field.now same) ∙ pushback_of-more (values_of (codes "grpc-retry-pushback-ms") before) c.args.field.now.value (λ none. c.in_default.not-None (e ∙ none)))
