use Rattle.std.proofs.Common.{List, ℕ, inr, refl, rules, subst}
use Rattle.script_input.specs.Reading.{GivesNone}
use Rattle.script_input.specs.declared.fault.InputFault.{InputFault}
use Rattle.session_text.proofs.WrittenLaws.{all_as, prefix_as, some_as}
use Rattle.session_text.specs.Sessions.{line_fault_text}
use Rattle.session_actions_run.specs.Reports.{IsDone, IsOutput, IsScriptReport, StopsLong}
use Rattle.session_actions_run.proofs.ScriptLaws.{report_done, report_output, report_stops}
use Rattle.session_actions_run.proofs.run.run_script.Goals as goal

pub returns-in-Ok : goal.returns-in-Ok
returns-in-Ok g c =
    let done : (text : List ℕ) → _ → IsDone c.args.form (g.S.Source.left c.args.source.now) (g.S.Source.left c.read_script.new.source) text = λ text is.
    report_done c.args.form _ _ c.in-Ok.read.target c.in-Ok.read.value c.in-Ok.read.events.items text c.in-Ok.ensures.ok is in
    let stops : (text : List ℕ) → _ → StopsLong c.args.form (g.S.Source.left c.args.source.now) (g.S.Source.left c.read_script.new.source) text = λ text is.
    report_stops c.args.form _ _ c.in-Ok.read.target c.in-Ok.read.value c.in-Ok.read.events.items text c.in-Ok.ensures.ok is in
    let reported : (text : List ℕ) → IsScriptReport c.in-Ok.read.target c.in-Ok.read.value c.in-Ok.read.events.items text → IsOutput c.args.form (g.S.Source.left c.args.source.now) (g.S.Source.left c.read_script.new.source) text = λ text is.
    report_output c.args.form _ _ c.in-Ok.read.target c.in-Ok.read.value c.in-Ok.read.events.items text c.in-Ok.ensures.ok is in
    record {
      done = λ zero. all_as _ _ _ _ done (c.report_script.ensures.done zero);
      line = search rules;
      reading = search rules;
      writing = λ five. ((c.report_script.ensures.writing five).0, prefix_as _ _ _ _ reported (c.report_script.ensures.writing five).1);
      memory = λ six. some_as _ _ _ _ reported (c.report_script.ensures.memory six);
      long = λ seven. all_as _ _ _ _ stops (c.report_script.ensures.long seven);
      known = search rules;
    }

pub returns-in-BadLine-clause-memory : goal.returns-in-BadLine-clause-memory
returns-in-BadLine-clause-memory g c = λ six. inr (
  line_fault_text c.in-BadLine.line c.in-BadLine.cause,
  inr (record {
    line = c.in-BadLine.line;
    cause = c.in-BadLine.cause;
    bad = subst
        (λ (f : InputFault). GivesNone c.args.form (g.S.Source.left c.args.source.now) (g.S.Source.left c.read_script.new.source)
        (g.S.Source.faults c.args.source.now) (g.S.Source.faults c.read_script.new.source) f)
        c.in-BadLine.is c.in-Err.ensures.bad;
    text_is = refl;
  }),
  c.report_bad.ensures.prefix (inr six),
)
