use Rattle.std.proofs.Common.{◌≡◌, ◌++◌, sym, subst}
use Rattle.std.specs.Prelude.{OnOk}
use Rattle.grpc_base.specs.declared.event.Event.{Event}
use Rattle.script_text.specs.Output.{spaced}
use Rattle.script_text.specs.Spelling.{event_words}
use Rattle.script_text.proofs.events.append_event.Goals as goal

pub returns-in-Ping : goal.returns-in-Ping
returns-in-Ping c =
    subst (λ (e : Event). OnOk c.append_ping.result (c.append_ping.new.out.items ≡ c.args.out.now.items ++ spaced (event_words e)))
    (sym c.in-Ping.is) c.append_ping.ensures
