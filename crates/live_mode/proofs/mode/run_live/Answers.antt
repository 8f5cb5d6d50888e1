use Rattle.std.proofs.Common.{List, ℕ, inr, map, refl, rules, subst}
use Rattle.script_input.specs.declared.fault.InputFault.{InputFault}
use Rattle.script_input.specs.Lives.{GivesNoLive}
use Rattle.script_input.proofs.LiveLaws.{live_target}
use Rattle.live_mode.specs.Live.{EndsLiveFull, IsAnyLiveReport, IsLiveText, IsLived}
use Rattle.session_text.specs.Sessions.{line_fault_text}
use Rattle.live_mode.proofs.LiveLaws.{full_of, live_text, lived_of}
use Rattle.session_text.proofs.WrittenLaws.{all_as, prefix_as, some_as}
use Rattle.live_mode.proofs.mode.run_live.Goals as goal

pub live_script-requires-clause-target : goal.live_script-requires-clause-target
live_script-requires-clause-target g c = λ a b. live_target _ _ c.in-Ok.read c.in-Ok.ensures.ok

pub returns-in-Ok : goal.returns-in-Ok
returns-in-Ok g c =
    let done : (text : List ℕ) → _ → IsLived (map g.P.Balancer.seen c.args.policies.items) (g.W.World.held c.args.world) (g.S.Source.left c.args.script.now) (g.S.Source.left c.read_live.new.source) text = λ text is.
    lived_of _ _ _ _ c.in-Ok.read text c.in-Ok.ensures.ok is in
    let ends : (text : List ℕ) → _ → EndsLiveFull (map g.P.Balancer.seen c.args.policies.items) (g.W.World.held c.args.world) (g.S.Source.left c.args.script.now) (g.S.Source.left c.read_live.new.source) text = λ text is.
    full_of _ _ _ _ c.in-Ok.read text c.in-Ok.ensures.ok is in
    let reported : (text : List ℕ) → IsAnyLiveReport (map g.P.Balancer.seen c.args.policies.items) (g.W.World.held c.args.world) c.in-Ok.read text → IsLiveText (map g.P.Balancer.seen c.args.policies.items) (g.W.World.held c.args.world) (g.S.Source.left c.args.script.now) (g.S.Source.left c.read_live.new.source) text = λ text is.
    live_text _ _ _ _ c.in-Ok.read text c.in-Ok.ensures.ok is in
    record {
      done = λ zero. all_as _ _ _ _ done (c.live_script.ensures.done zero);
      line = search rules;
      reading = search rules;
      writing = λ five. ((c.live_script.ensures.writing five).0, prefix_as _ _ _ _ reported (c.live_script.ensures.writing five).1);
      memory = λ six. some_as _ _ _ _ reported (c.live_script.ensures.memory six);
      full = λ seven. all_as _ _ _ _ ends (c.live_script.ensures.full seven);
      known = search rules;
    }

pub returns-in-BadLine-clause-memory : goal.returns-in-BadLine-clause-memory
returns-in-BadLine-clause-memory g c = λ six. inr (
  line_fault_text c.in-BadLine.line c.in-BadLine.cause,
  inr (record {
    line = c.in-BadLine.line;
    cause = c.in-BadLine.cause;
    bad = subst
        (λ (f : InputFault). GivesNoLive (g.S.Source.left c.args.script.now) (g.S.Source.left c.read_live.new.source)
        (g.S.Source.faults c.args.script.now) (g.S.Source.faults c.read_live.new.source) f)
        c.in-BadLine.is c.in-Err.ensures.bad;
    text_is = refl;
  }),
  c.report_bad.ensures.prefix (inr six),
)
