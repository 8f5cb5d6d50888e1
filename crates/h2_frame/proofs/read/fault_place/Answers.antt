use Rattle.std.proofs.Common.{◌≡◌, ◌∙◌, sym, ap, arith, ℕ, length, ◌-◌}
use Rattle.h2_frame.specs.Readings.{fault_place_from, is_fault, fault_place}
use Rattle.h2_frame.proofs.PayloadLaws.{place_is, stops_here, goes_by}
use Rattle.h2_frame.proofs.read.fault_place.Goals as goal

found : (c : goal.Then-is_bad) → c.loop-place.place ≡ fault_place c.args.bytes.now
found c =
    sym (stops_here (length c.args.bytes.now - c.loop-place.place) c.loop-place.place c.args.bytes.now (omega (arith, c.loop-place-test.true))
    (ap is_fault (sym c.next_frame.ensures.exact) ∙ sym c.is_bad.ensures ∙ c.if-is_bad.true))
    ∙ c.loop-place.invariant

pub returns-then-is_bad-clause-value : goal.returns-then-is_bad-clause-value
returns-then-is_bad-clause-value c = found c

pub returns-then-is_bad-clause-place : goal.returns-then-is_bad-clause-place
returns-then-is_bad-clause-place c code fault = found c ∙ place_is c.args.bytes.now code fault

pub loop-place-preserved : goal.loop-place-preserved
loop-place-preserved c =
    sym (goes_by (length c.args.bytes.now) c.loop-place.place c.args.bytes.now c.loop-place-test.true
    (ap is_fault (sym c.next_frame.ensures.exact) ∙ sym c.is_bad.ensures ∙ c.if-is_bad.false))
    ∙ c.loop-place.invariant

all : (c : goal.After-loop-place) → length c.args.bytes.now ≡ fault_place c.args.bytes.now
all c =
    let none : length c.args.bytes.now - c.loop-place.place ≡ 0 = omega (arith, c.loop-place-test.false) in
    let here : c.loop-place.place ≡ fault_place c.args.bytes.now =
    ap (λ (n : ℕ). fault_place_from n c.loop-place.place c.args.bytes.now) (sym none) ∙ c.loop-place.invariant in
    omega (arith, here, c.loop-place-test.false, c.loop-place.auto.place-end)

pub returns-clause-value : goal.returns-clause-value
returns-clause-value c = all c

pub returns-clause-place : goal.returns-clause-place
returns-clause-place c code fault = all c ∙ place_is c.args.bytes.now code fault
