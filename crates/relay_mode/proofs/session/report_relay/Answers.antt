use Rattle.std.proofs.Common.{◌≡◌, rules}
use Rattle.script_text.specs.declared.report.ReportFault.TheVariants as unwritten_by
use Rattle.session_text.proofs.WrittenLaws.{all_as, err_write, prefix_as, some_as}
use Rattle.relay_mode.proofs.RelayLaws.{listened_all, relay_report}
use Rattle.relay_mode.proofs.session.report_relay.Goals as goal

pub returns-in-Ok-clause-ok : goal.returns-in-Ok-clause-ok
returns-in-Ok-clause-ok g c = (
  all_as _ _ _ _ (λ text is. relay_report _ _ c.in_ok-ran.ran _ _ _ c.args.script c.in_ok-seat.seat text c.in_ok-channel.ensures.origin c.in_ok-seat.ensures.reported c.in_ok-ran.ensures c.in_ok-seat.ensures.left is) c.in-Ok.ensures.ok,
  listened_all _ _ _ (search rules) c.in_ok-seat.ensures.listened,
)

pub returns-clause-err : goal.returns-clause-err
returns-clause-err g c = some_as _ _ _ _ (λ text is. (
  c.in_ok-ran.ran,
  relay_report _ _ c.in_ok-ran.ran _ _ _ c.args.script c.in_ok-seat.seat text c.in_ok-channel.ensures.origin c.in_ok-seat.ensures.reported c.in_ok-ran.ensures c.in_ok-seat.ensures.left is,
)) c.in-Err.ensures.err

pub returns-clause-write : goal.returns-clause-write
returns-clause-write g c = λ failed.
    let same : c.in-Err.fault ≡ unwritten_by.Write = (cc) in
    let wrote = err_write c.report_channel.result c.in-Err.fault c.in-Err.is same c.report_channel.ensures.write in (
      wrote.0,
      prefix_as _ _ _ _ (λ text is. (
        c.in_ok-ran.ran,
        relay_report _ _ c.in_ok-ran.ran _ _ _ c.args.script c.in_ok-seat.seat text c.in_ok-channel.ensures.origin c.in_ok-seat.ensures.reported c.in_ok-ran.ensures c.in_ok-seat.ensures.left is,
      )) wrote.1,
      listened_all _ _ _ (search rules) c.in_ok-seat.ensures.listened,
    )
