use Rattle.std.proofs.Common.{List, ℕ, inr, refl}
use Rattle.script_text.specs.Report.{report_of}
use Rattle.session_actions_run.specs.Reports.{IsReport}
use Rattle.session_text.proofs.WrittenLaws.{on_err_as, on_ok_as}
use Rattle.session_actions_run.proofs.session.write_session.Goals as goal

pub returns-clause-ok : goal.returns-clause-ok
returns-clause-ok g c =
    let text : List ℕ = report_of c.args.target.now c.in_ok-report.report.journal c.in_ok-report.report.ledger in
    let is : IsReport c.args.target.now c.args.value.now c.args.events.items text =
    record { journal = c.in_ok-report.report.journal; ledger = c.in_ok-report.report.ledger; session = c.in_ok-report.ensures; text_is = refl } in
    on_ok_as c.write_report.result (λ all. (text, is, all)) c.write_report.ensures.ok

pub returns-clause-err : goal.returns-clause-err
returns-clause-err g c =
    let text : List ℕ = report_of c.args.target.now c.in_ok-report.report.journal c.in_ok-report.report.ledger in
    let is : IsReport c.args.target.now c.args.value.now c.args.events.items text =
    record { journal = c.in_ok-report.report.journal; ledger = c.in_ok-report.report.ledger; session = c.in_ok-report.ensures; text_is = refl } in
    on_err_as c.write_report.result (λ prefix. inr (text, is, prefix)) c.write_report.ensures.err
