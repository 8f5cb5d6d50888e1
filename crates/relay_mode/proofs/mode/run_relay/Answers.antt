use Rattle.std.proofs.Common.{List, ℕ, inr, map, refl, rules, subst}
use Rattle.script_input.specs.declared.fault.InputFault.{InputFault}
use Rattle.script_input.specs.Relays.{GivesNoRelay}
use Rattle.session_text.specs.Sessions.{line_fault_text}
use Rattle.session_text.proofs.WrittenLaws.{all_as, prefix_as, some_as}
use Rattle.relay_mode.specs.Relayed.{EndsRelayFull, IsAnyRelayReport, IsRelayText, IsRelayed}
use Rattle.relay_mode.proofs.RelayLaws.{full_of, relay_target, relay_text, relayed_of}
use Rattle.relay_mode.proofs.mode.run_relay.Goals as goal

pub relay_script-requires-clause-target : goal.relay_script-requires-clause-target
relay_script-requires-clause-target g c = λ a b. relay_target _ _ c.in-Ok.read c.in-Ok.ensures.ok

pub returns-in-Ok : goal.returns-in-Ok
returns-in-Ok g c =
    let done : (text : List ℕ) → _ → IsRelayed (map g.P.Balancer.seen c.args.policies.items) (g.W.World.held c.args.world) c.args.settings.links (g.S.Source.left c.args.script.now) (g.S.Source.left c.read_relay.new.source) text = λ text is.
    relayed_of _ _ _ _ _ c.in-Ok.read text c.in-Ok.ensures.ok is in
    let ends : (text : List ℕ) → _ → EndsRelayFull (map g.P.Balancer.seen c.args.policies.items) (g.W.World.held c.args.world) c.args.settings.links (g.S.Source.left c.args.script.now) (g.S.Source.left c.read_relay.new.source) text = λ text is.
    full_of _ _ _ _ _ c.in-Ok.read text c.in-Ok.ensures.ok is in
    let reported : (text : List ℕ) → IsAnyRelayReport (map g.P.Balancer.seen c.args.policies.items) (g.W.World.held c.args.world) c.args.settings.links c.in-Ok.read text → IsRelayText (map g.P.Balancer.seen c.args.policies.items) (g.W.World.held c.args.world) c.args.settings.links (g.S.Source.left c.args.script.now) (g.S.Source.left c.read_relay.new.source) text = λ text is.
    relay_text _ _ _ _ _ c.in-Ok.read text c.in-Ok.ensures.ok is in
    record {
      done = λ zero. all_as _ _ _ _ done (c.relay_script.ensures.done zero);
      line = search rules;
      reading = search rules;
      writing = λ five. ((c.relay_script.ensures.writing five).0, prefix_as _ _ _ _ reported (c.relay_script.ensures.writing five).1);
      memory = λ six. some_as _ _ _ _ reported (c.relay_script.ensures.memory six);
      full = λ seven. all_as _ _ _ _ ends (c.relay_script.ensures.full seven);
      not_listening = λ eight. record { script = c.in-Ok.read; read = c.in-Ok.ensures.ok; failed = (c.relay_script.ensures.not_listening eight).1; written = (c.relay_script.ensures.not_listening eight).0 };
      listened = c.relay_script.ensures.listened;
      known = search rules;
    }

pub returns-in-BadLine-clause-memory : goal.returns-in-BadLine-clause-memory
returns-in-BadLine-clause-memory g c = λ six. inr (
  line_fault_text c.in-BadLine.line c.in-BadLine.cause,
  inr (record {
    line = c.in-BadLine.line;
    cause = c.in-BadLine.cause;
    bad = subst
        (λ (f : InputFault). GivesNoRelay (g.S.Source.left c.args.script.now) (g.S.Source.left c.read_relay.new.source)
        (g.S.Source.faults c.args.script.now) (g.S.Source.faults c.read_relay.new.source) f)
        c.in-BadLine.is c.in-Err.ensures.bad;
    text_is = refl;
  }),
  c.report_bad.ensures.prefix (inr six),
)
