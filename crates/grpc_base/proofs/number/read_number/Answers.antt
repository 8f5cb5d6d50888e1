use Rattle.std.proofs.Common.{◌≡◌, ℕ, Bool, true, sym, IsTrue, Option, Some, None}
use Rattle.std.specs.Option.{IfSome, IfNone}
use Rattle.std.specs.Str.Parse.{ParsesUnsigned}
use Rattle.grpc_base.specs.Numbers.{is_number}
use Rattle.grpc_base.proofs.NumberLaws.{parsed, parsed_some, parsed_none, digits_are_utf8}
use Rattle.grpc_base.proofs.number.read_number.Goals as goal

where_some : (o : Option ℕ) (b : Bool) → b ≡ true → IfSome o (λ _. IsTrue b)
where_some (Some n) b t = t
where_some None b t = tt

where_none : (o : Option ℕ) (P Q : Type 0) → IfNone o P → IfNone o (Q → P)
where_none (Some n) P Q p = tt
where_none None P Q p = λ _. p

pub returns-in-Ok-clause-some : goal.returns-in-Ok-clause-some
returns-in-Ok-clause-some c =
    let digits : is_number c.args.text.now ≡ true = sym c.if-not-is_number.ensures in
    let reads : ParsesUnsigned 64 10 c.args.text.now c.parse.result = rw c.in-Ok.ensures.cases.0 at c.parse.ensures.value.0 in
    rw c.ok.ensures.value (parsed_some c.args.text.now _ digits (parsed _ _ digits reads))

pub returns-in-Ok-clause-is_number : goal.returns-in-Ok-clause-is_number
returns-in-Ok-clause-is_number c = where_some c.ok.result _ (sym c.if-not-is_number.ensures)

pub returns-in-Ok-clause-none : goal.returns-in-Ok-clause-none
returns-in-Ok-clause-none c =
    let digits : is_number c.args.text.now ≡ true = sym c.if-not-is_number.ensures in
    let reads : ParsesUnsigned 64 10 c.args.text.now c.parse.result = rw c.in-Ok.ensures.cases.0 at c.parse.ensures.value.0 in
    where_none c.ok.result _ _ (rw c.ok.ensures.value (parsed_none c.args.text.now _ digits (parsed _ _ digits reads)))

pub returns-in-Err-clause-none : goal.returns-in-Err-clause-none
returns-in-Err-clause-none c = λ number. absurd (c.in-Err.ensures.cases.0 (digits_are_utf8 c.args.text.now (sym c.if-not-is_number.ensures)))
