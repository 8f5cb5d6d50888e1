use Rattle.channel_core.specs.Core.{ledger_in}
use Rattle.session_text.proofs.SessionLaws.{full_prefix, full_written, report_prefix}
use Rattle.session_text.proofs.WrittenLaws.{on_err_as, on_ok_as}
use Rattle.session_text.proofs.session.write_session.Goals as goal

pub returns-in-Full-clause-ok : goal.returns-in-Full-clause-ok
returns-in-Full-clause-ok g c =
    on_ok_as c.write_text.result
    (λ all. full_written c.args.ran _ _ _ c.args.target.now c.args.core.now.journal c.journal.result.now (ledger_in c.args.core.now) c.ledger.result.now
    c.in-Full.is c.journal.ensures c.ledger.ensures c.in-Ok.ensures.ok all)
    c.write_text.ensures.ok

pub returns-in-Full-clause-err : goal.returns-in-Full-clause-err
returns-in-Full-clause-err g c =
    on_err_as c.write_text.result
    (λ prefix. full_prefix c.args.ran _ _ _ c.args.target.now c.args.core.now.journal c.journal.result.now (ledger_in c.args.core.now) c.ledger.result.now
    c.in-Full.is c.journal.ensures c.ledger.ensures c.in-Ok.ensures.ok prefix)
    c.write_text.ensures.err

pub returns-in-Err-clause-err : goal.returns-in-Err-clause-err
returns-in-Err-clause-err g c =
    report_prefix c.args.ran _ _ c.args.target.now c.args.core.now.journal c.journal.result.now (ledger_in c.args.core.now) c.ledger.result.now
    c.journal.ensures c.ledger.ensures c.in-Err.ensures.err
