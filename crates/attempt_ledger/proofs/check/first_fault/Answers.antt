use Rattle.std.proofs.Common.{◌≡◌, ℕ, ◌+◌, true, false, cond, List, take, rules, arith}
use Rattle.attempt_ledger.specs.declared.row.Row.{Row}
use Rattle.attempt_ledger.specs.Faults.{Breaks, IsLowestBroken}
use Rattle.attempt_ledger.specs.Numbering.{is_transparent}
use Rattle.attempt_ledger.proofs.FaultLaws.{all-passed, fault-here, of-slice, passed-more}
use Rattle.attempt_ledger.proofs.check.first_fault.Goals.{then-not-is_transparent, else-not-is_transparent}
use Rattle.attempt_ledger.proofs.check.first_fault.Goals as goal

pub lowest_broken-requires : goal.lowest_broken-requires
lowest_broken-requires c = c.loop-place.invariant.many

pub returns-in-Some-clause-some : goal.returns-in-Some-clause-some
returns-in-Some-clause-some c =
    fault-here c.args.chosen.now c.args.rows.now c.loop-place.count c.loop-place.place c.in-Some.law c.index-rows-place.result c.loop-place-test.true c.index-rows-place.is c.loop-place.invariant
    (of-slice c.args.rows.now (c.loop-place.place + 1) (λ (after : List Row). IsLowestBroken c.args.chosen.now c.args.rows.now (take c.loop-place.place c.args.rows.now) c.index-rows-place.result after c.in-Some.law) c.in-Some.ensures.some)

pub loop-place-preserved : goal.loop-place-preserved
loop-place-preserved c =
    let next : c.if-not-is_transparent.count ≡ cond (is_transparent c.index-rows-place.result.kind) c.loop-place.count c.index-rows-place.result.number =
    elim c.if-not-is_transparent.branch [
      | then-not-is_transparent w ↦ (let other : is_transparent c.index-rows-place.result.kind ≡ false = search rules in rw other w.count-is)
      | else-not-is_transparent w ↦ (let same : is_transparent c.index-rows-place.result.kind ≡ true = search rules in rw same w.count-is)
    ] in
    passed-more c.args.chosen.now c.args.rows.now c.loop-place.count c.if-not-is_transparent.count c.loop-place.place c.index-rows-place.result c.loop-place-test.true c.index-rows-place.is c.loop-place.invariant c.in_default.ensures.numbered
    (of-slice c.args.rows.now (c.loop-place.place + 1) (λ (after : List Row). (law : ℕ) → Breaks c.args.chosen.now c.args.rows.now law (take c.loop-place.place c.args.rows.now) c.index-rows-place.result after → ⊥) c.in_default.ensures.none)
    next

pub returns-clause-none : goal.returns-clause-none
returns-clause-none c =
    all-passed c.args.chosen.now c.args.rows.now c.loop-place.count c.loop-place.place (omega (arith, c.loop-place-test.false)) c.loop-place.invariant
