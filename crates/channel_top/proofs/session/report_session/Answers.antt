use Rattle.std.proofs.Common.{◌≡◌, inr, map}
use Rattle.script_text.specs.declared.report.ReportFault.TheVariants as unwritten_by
use Rattle.channel_core.specs.Core.{ledger_in}
use Rattle.session_text.specs.Sessions.{run_text}
use Rattle.channel_top.proofs.ReportLaws.{report_by}
use Rattle.session_text.proofs.WrittenLaws.{err_write}
use Rattle.channel_top.proofs.session.report_session.Goals as goal

pub returns-in-Ok-clause-ok : goal.returns-in-Ok-clause-ok
returns-in-Ok-clause-ok g c = (
  run_text c.in_ok-session.session.ran c.args.script.target c.in_ok-session.session.core.journal (ledger_in c.in_ok-session.session.core),
  report_by c.sessions_keep_the_promise.ensures c.in_ok-session.session.ran (map g.P.Balancer.seen c.args.policies.items) c.args.script.target c.args.script.value c.in_ok-session.session.core c.args.script.events.items c.in_ok-session.ensures,
  c.in-Ok.ensures.ok,
)

pub returns-clause-err : goal.returns-clause-err
returns-clause-err g c = inr (
  run_text c.in_ok-session.session.ran c.args.script.target c.in_ok-session.session.core.journal (ledger_in c.in_ok-session.session.core),
  (
    c.in_ok-session.session.ran,
    report_by c.sessions_keep_the_promise.ensures c.in_ok-session.session.ran (map g.P.Balancer.seen c.args.policies.items) c.args.script.target c.args.script.value c.in_ok-session.session.core c.args.script.events.items c.in_ok-session.ensures,
  ),
  c.in-Err.ensures.err,
)

pub returns-clause-write : goal.returns-clause-write
returns-clause-write g c = λ failed.
    let same : c.in-Err.fault ≡ unwritten_by.Write = (cc) in (
      err_write c.write_session.result c.in-Err.fault c.in-Err.is same c.write_session.ensures.write,
      (
        run_text c.in_ok-session.session.ran c.args.script.target c.in_ok-session.session.core.journal (ledger_in c.in_ok-session.session.core),
        (
          c.in_ok-session.session.ran,
          report_by c.sessions_keep_the_promise.ensures c.in_ok-session.session.ran (map g.P.Balancer.seen c.args.policies.items) c.args.script.target c.args.script.value c.in_ok-session.session.core c.args.script.events.items c.in_ok-session.ensures,
        ),
        c.in-Err.ensures.err,
      ),
    )
