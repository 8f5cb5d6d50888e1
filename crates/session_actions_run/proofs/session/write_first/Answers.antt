use Rattle.std.proofs.Common.{◌≡◌, arith, inr}
use Rattle.script_text.specs.declared.report.ReportFault.TheVariants as unwritten_by
use Rattle.session_text.proofs.WrittenLaws.{err_holds, err_write, on_err_as, on_ok_as}
use Rattle.session_actions_run.proofs.ScriptLaws.{first_prefix, first_part, first_some, first_written}
use Rattle.session_actions_run.proofs.session.write_first.Goals as goal

pub returns-in-Ok-clause-ok : goal.returns-in-Ok-clause-ok
returns-in-Ok-clause-ok g c =
    on_ok_as c.write_text.result
    (λ second. first_written c.args.target.now c.args.value.now c.args.events.items _ _ _ _ c.requires.long c.truncate.ensures.items c.in-Ok.ensures.ok second)
    c.write_text.ensures.ok

pub returns-in-Ok-clause-err : goal.returns-in-Ok-clause-err
returns-in-Ok-clause-err g c =
    on_err_as c.write_text.result
    (λ second. inr (first_prefix c.args.target.now c.args.value.now c.args.events.items _ _ _ _ c.requires.long c.truncate.ensures.items c.in-Ok.ensures.ok second))
    c.write_text.ensures.err

pub returns-in-Ok-clause-write : goal.returns-in-Ok-clause-write
returns-in-Ok-clause-write g c = λ failed. (
  omega (arith, c.write_text.ensures.write failed, c.write_session.ensures.count),
  first_prefix c.args.target.now c.args.value.now c.args.events.items _ _ _ _ c.requires.long c.truncate.ensures.items c.in-Ok.ensures.ok
      (err_holds c.write_text.result unwritten_by.Write failed c.write_text.ensures.err),
)

pub returns-in-Err-clause-err : goal.returns-in-Err-clause-err
returns-in-Err-clause-err g c =
    first_some c.args.target.now c.args.value.now c.args.events.items _ _ _ c.requires.long c.truncate.ensures.items c.in-Err.ensures.err

pub returns-in-Err-clause-write : goal.returns-in-Err-clause-write
returns-in-Err-clause-write g c = λ failed.
    let same : c.in-Err.fault ≡ unwritten_by.Write = (cc) in
    let whole = err_write c.write_session.result c.in-Err.fault c.in-Err.is same c.write_session.ensures.write in
    (whole.0, first_part c.args.target.now c.args.value.now c.args.events.items _ _ _ c.requires.long c.truncate.ensures.items whole.1)
