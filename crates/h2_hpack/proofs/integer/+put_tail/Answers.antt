use Rattle.std.proofs.Common.{◌≡◌, ◌≤◌, ◌+◌, ◌-◌, ◌/◌, ◌%◌, ◌∷◌, ◌++◌, [], ℕ, zero, suc, refl, sym, ap, arith, subst, ◌∙◌}
use Rattle.std.specs.Prelude.{OnOk}
use Rattle.std.proofs.lemmas.Bool.{le-ltb}
use Rattle.std.proofs.lemmas.List.{append_assoc}
use Rattle.h2_hpack.specs.Integers.{tail_bytes}
use Rattle.h2_hpack.proofs.integer.+put_tail.Goals as goal

-- a rest of 128 or more has a byte and a rest
further : (most n : ℕ) → (most ≡ 0 → ⊥) → 128 ≤ n → tail_bytes most n ≡ (n % 128 + 128) ∷ tail_bytes (most - 1) (n / 128)
further zero n some large = absurd (some refl)
further (suc most) n some large =
    let same : suc most - 1 ≡ most = omega arith in
    rw (same, le-ltb n 128 large) refl

pub returns : goal.returns
returns t c =
    let x = c.args.value % 128 + 128 in
    let rest = tail_bytes (c.args.most - 1) (c.args.value / 128) in
    let whole : c.push-2.new.self.items ++ rest ≡ c.args.out.now.items ++ tail_bytes c.args.most c.args.value =
    ap (λ l. l ++ rest) c.in_ok-push-2.ensures.items ∙ append_assoc c.args.out.now.items (x ∷ []) rest
    ∙ ap (λ l. c.args.out.now.items ++ l) (sym (further c.args.most c.args.value c.if-most-eq0.false (omega (arith, c.if-value-lt128.false)))) in
    subst (λ l. OnOk c.put_tail.result (c.put_tail.new.out.items ≡ l)) whole c.put_tail.ensures
