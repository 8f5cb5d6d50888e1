use Rattle.live_channel.proofs.ReportLaws.{reports_on}
use Rattle.session_text.proofs.WrittenLaws.{all_as, prefix_as, on_err_as, on_ok_as, some_as}
use Rattle.live_channel.proofs.report.report_channel.Goals as goal

pub returns-clause-ok : goal.returns-clause-ok
returns-clause-ok g c =
    on_ok_as _ (all_as _ _ _ _ (λ text is. reports_on _ _ _ _ _ _ text c.connectivity.ensures.sees c.connectivity.ensures.kept c.connectivity-2.ensures.sees c.connectivity-2.ensures.kept is)) c.report_turn-answer.ensures.ok

pub returns-clause-err : goal.returns-clause-err
returns-clause-err g c =
    on_err_as _ (some_as _ _ _ _ (λ text is. reports_on _ _ _ _ _ _ text c.connectivity.ensures.sees c.connectivity.ensures.kept c.connectivity-2.ensures.sees c.connectivity-2.ensures.kept is)) c.report_turn-answer.ensures.err

pub returns-clause-write : goal.returns-clause-write
returns-clause-write g c = λ failed.
    let wrote = c.report_turn-answer.ensures.write failed in
    (wrote.0, prefix_as _ _ _ _ (λ text is. reports_on _ _ _ _ _ _ text c.connectivity.ensures.sees c.connectivity.ensures.kept c.connectivity-2.ensures.sees c.connectivity-2.ensures.kept is) wrote.1)
