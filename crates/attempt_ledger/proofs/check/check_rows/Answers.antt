use Rattle.std.proofs.Common.{◌≡◌, Err, ap, subst}
use Rattle.attempt_ledger.specs.declared.check.RowFault.{RowFault}
use Rattle.attempt_ledger.specs.Faults.{IsFault}
use Rattle.attempt_ledger.proofs.FaultLaws.{one-fault}
use Rattle.attempt_ledger.proofs.check.check_rows.Goals as goal

pub returns-in-Some-clause-ok : goal.returns-in-Some-clause-ok
returns-in-Some-clause-ok c =
    let fault = c.in-Some.ensures.some in
    (λ e. absurd (cc), λ none. absurd (none c.in-Some.fault.law c.in-Some.fault.row fault.broken))

pub returns-in-Some-clause-fault : goal.returns-in-Some-clause-fault
returns-in-Some-clause-fault c = λ other. (
  (λ e. let same : c.in-Some.fault ≡ other = (cc) in subst (IsFault c.args.chosen.now c.args.rows.now) same c.in-Some.ensures.some),
  (λ f. ap (λ (x : RowFault). Err x) (one-fault c.args.chosen.now c.args.rows.now c.in-Some.fault other c.in-Some.ensures.some f)),
)

pub returns-in-None-clause-fault : goal.returns-in-None-clause-fault
returns-in-None-clause-fault c = λ fault. (
  (λ e. absurd (cc)),
  (λ f. absurd (c.in-None.ensures.none fault.law fault.row f.broken)),
)
