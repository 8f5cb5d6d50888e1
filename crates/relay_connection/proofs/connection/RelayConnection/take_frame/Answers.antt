use Rattle.std.proofs.Common.{◌≡◌, None, ◌∙◌, ap}
use Rattle.std.specs.Prelude.{Err}
use Rattle.h2_server.specs.declared.fault.LinkFault.TheVariants as fault
use Rattle.relay_connection.specs.Relay.{Relay}
use Rattle.relay_connection.proofs.connection.RelayConnection.take_frame.Goals as goal

pub returns-in-Err-Broken-clause-relay : goal.returns-in-Err-Broken-clause-relay
returns-in-Err-Broken-clause-relay c =
    let came : c.arrived.result ≡ Err (fault.Broken c.in-Err-Broken.field-0-0) = cc in
    let some = (c.arrived.ensures.gone c.in-Err-Broken.field-0-0).0 came in
    let none : c.self.inside.link.wire.broken ≡ None = ap (λ (r : Relay). r.link.wire.broken) c.self.view_is ∙ c.requires.whole in
    absurd (cc)

pub returns-in-Err-Broken-clause-asks : goal.returns-in-Err-Broken-clause-asks
returns-in-Err-Broken-clause-asks c =
    let came : c.arrived.result ≡ Err (fault.Broken c.in-Err-Broken.field-0-0) = cc in
    let some = (c.arrived.ensures.gone c.in-Err-Broken.field-0-0).0 came in
    let none : c.self.inside.link.wire.broken ≡ None = ap (λ (r : Relay). r.link.wire.broken) c.self.view_is ∙ c.requires.whole in
    absurd (cc)

pub returns-in-Err-Broken-clause-taken : goal.returns-in-Err-Broken-clause-taken
returns-in-Err-Broken-clause-taken c =
    let came : c.arrived.result ≡ Err (fault.Broken c.in-Err-Broken.field-0-0) = cc in
    let some = (c.arrived.ensures.gone c.in-Err-Broken.field-0-0).0 came in
    let none : c.self.inside.link.wire.broken ≡ None = ap (λ (r : Relay). r.link.wire.broken) c.self.view_is ∙ c.requires.whole in
    absurd (cc)
