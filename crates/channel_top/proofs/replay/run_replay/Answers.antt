use Rattle.std.proofs.Common.{List, map, ℕ, inr, refl, rules, subst}
use Rattle.script_input.specs.declared.fault.InputFault.{InputFault}
use Rattle.script_input.specs.declared.form.Form.TheVariants as form
use Rattle.script_input.specs.Reading.{GivesNone}
use Rattle.session_text.specs.Sessions.{line_fault_text}
use Rattle.channel_top.specs.Top.{EndsFull, IsDone, IsReplayText, IsRunReport}
use Rattle.channel_top.proofs.AgainLaws.{replay_text, report_done, report_ends, target_read}
use Rattle.session_text.proofs.WrittenLaws.{all_as, prefix_as, some_as}
use Rattle.channel_top.proofs.replay.run_replay.Goals as goal

pub report_script-requires-clause-target : goal.report_script-requires-clause-target
report_script-requires-clause-target g c =
    target_read form.Script _ _ c.in-Ok.read.target c.in-Ok.read.value c.in-Ok.read.events.items c.in-Ok.ensures.ok

pub returns-in-Ok : goal.returns-in-Ok
returns-in-Ok g c =
    let done : (text : List ℕ) → _ → IsDone (map g.P.Balancer.seen c.args.policies.items) (g.S.Source.left c.args.script.now) (g.S.Source.left c.read_replay.new.source) text = λ text is.
    report_done _ _ _ c.in-Ok.read.target c.in-Ok.read.value c.in-Ok.read.events.items text c.in-Ok.ensures.ok is in
    let ends : (text : List ℕ) → _ → EndsFull (map g.P.Balancer.seen c.args.policies.items) (g.S.Source.left c.args.script.now) (g.S.Source.left c.read_replay.new.source) text = λ text is.
    report_ends _ _ _ c.in-Ok.read.target c.in-Ok.read.value c.in-Ok.read.events.items text c.in-Ok.ensures.ok is in
    let reported : (text : List ℕ) → IsRunReport (map g.P.Balancer.seen c.args.policies.items) c.in-Ok.read.target c.in-Ok.read.value c.in-Ok.read.events.items text → IsReplayText (map g.P.Balancer.seen c.args.policies.items) (g.S.Source.left c.args.script.now) (g.S.Source.left c.read_replay.new.source) text = λ text is.
    replay_text _ _ _ c.in-Ok.read.target c.in-Ok.read.value c.in-Ok.read.events.items text c.in-Ok.ensures.ok is in
    record {
      done = λ zero. all_as _ _ _ _ done (c.report_script.ensures.done zero);
      line = search rules;
      reading = search rules;
      writing = λ five. ((c.report_script.ensures.writing five).0, prefix_as _ _ _ _ reported (c.report_script.ensures.writing five).1);
      memory = λ six. some_as _ _ _ _ reported (c.report_script.ensures.memory six);
      full = λ seven. all_as _ _ _ _ ends (c.report_script.ensures.full seven);
      known = search rules;
    }

pub returns-in-BadLine-clause-memory : goal.returns-in-BadLine-clause-memory
returns-in-BadLine-clause-memory g c = λ six. inr (
  line_fault_text c.in-BadLine.line c.in-BadLine.cause,
  inr (record {
    line = c.in-BadLine.line;
    cause = c.in-BadLine.cause;
    bad = subst
        (λ (f : InputFault). GivesNone form.Script (g.S.Source.left c.args.script.now) (g.S.Source.left c.read_replay.new.source)
        (g.S.Source.faults c.args.script.now) (g.S.Source.faults c.read_replay.new.source) f)
        c.in-BadLine.is c.in-Err.ensures.bad;
    text_is = refl;
  }),
  c.report_bad.ensures.prefix (inr six),
)
