use Rattle.std.proofs.Common.{◌≡◌, ◌<◌, ◌+◌, ◌≤◌, Bool, true, Some, None, ◌∙◌, ap, sym, subst, List, ℕ, [], ◌∷◌, ◌++◌}
use Rattle.std.specs.Prelude.{Err}
use Rattle.grpc_base.specs.Metadata.{IsMetaName, IsMetaValue, meta_limit, meta_size, pair_size}
use Rattle.grpc_base.specs.declared.meta_rule.MetaFault.TheVariants as faults
use Rattle.relay_request.specs.Pairs.{may_pair}
use Rattle.relay_request.proofs.PairLaws.{bad_name, bad_value, full, good_pair, is_pair, ok_pair, passed_over, room_for, taken}
use Rattle.relay_request.proofs.pairs.push_pair.Goals as goal

pub returns-in-Err-BadName-clause-pushed : goal.returns-in-Err-BadName-clause-pushed
returns-in-Err-BadName-clause-pushed c =
    let came : c.push.result ≡ Err faults.BadName = c.in-Err-BadName.is ∙ ap Err c.in-Err-BadName.field-0-is in
    let nope = c.push.ensures.bad_name.0 came in
    let test = bad_name c.args.pair.now (λ is. nope (subst IsMetaName (sym c.as_slice-name.ensures) is)) in
    passed_over c.args.meta.now c.args.pair.now test ∙ ap Some (sym c.in-Err-BadName.ensures.err)

pub returns-in-Err-BadValue-clause-pushed : goal.returns-in-Err-BadValue-clause-pushed
returns-in-Err-BadValue-clause-pushed c =
    let came : c.push.result ≡ Err faults.BadValue = c.in-Err-BadValue.is ∙ ap Err c.in-Err-BadValue.field-0-is in
    let nope = (c.push.ensures.bad_value.0 came).1 in
    let P : List ℕ → List ℕ → Type 0 = λ n v. IsMetaValue n v in
    let test = bad_value c.args.pair.now (λ is. nope (subst (λ n. P n c.as_slice-value.result.now) (sym c.as_slice-name.ensures) (subst (λ v. P c.args.pair.now.name v) (sym c.as_slice-value.ensures) is))) in
    passed_over c.args.meta.now c.args.pair.now test ∙ ap Some (sym c.in-Err-BadValue.ensures.err)

pub returns-in-Err-TooLong-clause-pushed : goal.returns-in-Err-TooLong-clause-pushed
returns-in-Err-TooLong-clause-pushed c =
    let came : c.push.result ≡ Err faults.TooLong = c.in-Err-TooLong.is ∙ ap Err c.in-Err-TooLong.field-0-is in
    let why = rw (c.as_slice-name.ensures, c.as_slice-value.ensures) at (c.push.ensures.too_long.0 came) in
    full c.args.meta.now c.args.pair.now (good_pair c.args.pair.now why.0 why.1) why.2

pub returns-in-Ok-clause-pushed : goal.returns-in-Ok-clause-pushed
returns-in-Ok-clause-pushed c =
    let bad_name = rw c.as_slice-name.ensures at c.push.ensures.bad_name in
    let bad_value = rw (c.as_slice-name.ensures, c.as_slice-value.ensures) at c.push.ensures.bad_value in
    let too_long = rw (c.as_slice-name.ensures, c.as_slice-value.ensures) at c.push.ensures.too_long in
    let fine : may_pair c.args.pair.now ≡ true =
    ok_pair c.args.pair.now (λ nope. let e : c.push.result ≡ Err faults.BadName = bad_name.1 nope in absurd (cc)) (λ name nope. let e : c.push.result ≡ Err faults.BadValue = bad_value.1 (name, nope) in absurd (cc)) in
    let is = is_pair c.args.pair.now fine in
    let room = room_for c.args.meta.now c.args.pair.now (λ past. let e : c.push.result ≡ Err faults.TooLong = too_long.1 (is.0, is.1, past) in absurd (cc)) in
    let new : c.push.new.self ≡ c.args.meta.now ++ c.args.pair.now ∷ [] = rw (c.as_slice-name.ensures, c.as_slice-value.ensures) at c.in-Ok.ensures.ok in
    taken c.args.meta.now c.args.pair.now fine room ∙ ap Some (sym new)
