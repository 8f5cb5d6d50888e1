use Rattle.std.proofs.Common.{◌≡◌}
use Rattle.script_text.specs.declared.report.ReportFault.TheVariants as unwritten_by
use Rattle.live_mode.proofs.GroupLaws.{worker_groups}
use Rattle.live_mode.proofs.LiveLaws.{live_report}
use Rattle.session_text.proofs.WrittenLaws.{all_as, err_write, prefix_as, some_as}
use Rattle.live_mode.proofs.session.report_live.Goals as goal

pub returns-in-Ok-clause-ok : goal.returns-in-Ok-clause-ok
returns-in-Ok-clause-ok g c = all_as _ _ _ _ (λ text is. live_report _ _ c.in_ok-ran.ran _ _ c.args.script _ c.in_ok-seat.seat text c.in_ok-channel.ensures.origin c.in_ok-seat.ensures.reported c.in_ok-ran.ensures
    (worker_groups (λ g. g.items) c.args.script.calls.items _ c.in_ok-groups.ensures.count c.in_ok-groups.ensures.each) c.in_ok-seat.ensures.left is) c.in-Ok.ensures.ok

pub returns-clause-err : goal.returns-clause-err
returns-clause-err g c = some_as _ _ _ _ (λ text is. (
  c.in_ok-ran.ran,
  live_report _ _ c.in_ok-ran.ran _ _ c.args.script _ c.in_ok-seat.seat text c.in_ok-channel.ensures.origin c.in_ok-seat.ensures.reported c.in_ok-ran.ensures
      (worker_groups (λ g. g.items) c.args.script.calls.items _ c.in_ok-groups.ensures.count c.in_ok-groups.ensures.each) c.in_ok-seat.ensures.left is,
)) c.in-Err.ensures.err

pub returns-clause-write : goal.returns-clause-write
returns-clause-write g c = λ failed.
    let same : c.in-Err.fault ≡ unwritten_by.Write = (cc) in
    let wrote = err_write c.report_channel.result c.in-Err.fault c.in-Err.is same c.report_channel.ensures.write in (
      wrote.0,
      prefix_as _ _ _ _ (λ text is. (
        c.in_ok-ran.ran,
        live_report _ _ c.in_ok-ran.ran _ _ c.args.script _ c.in_ok-seat.seat text c.in_ok-channel.ensures.origin c.in_ok-seat.ensures.reported c.in_ok-ran.ensures
            (worker_groups (λ g. g.items) c.args.script.calls.items _ c.in_ok-groups.ensures.count c.in_ok-groups.ensures.each) c.in_ok-seat.ensures.left is,
      )) wrote.1,
    )
