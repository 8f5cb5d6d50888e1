use Rattle.std.proofs.Common.{◌≡◌, Some, None, sym, ◌∙◌, ap}
use Rattle.std.specs.Prelude.{Err}
use Rattle.h2_server.specs.declared.fault.LinkFault.TheVariants as fault
use Rattle.loop_server.specs.Server.{Served}
use Rattle.loop_server.proofs.session.Session.arrived_once.Goals as goal

pub returns-in-Err-Broken-clause-state : goal.returns-in-Err-Broken-clause-state
returns-in-Err-Broken-clause-state c =
    let came : c.arrived.result ≡ Err (fault.Broken c.in-Err-Broken.field-0-0) = cc in
    let some = (c.arrived.ensures.gone c.in-Err-Broken.field-0-0).0 came in
    let none : c.self.inside.link.wire.broken ≡ None = ap (λ (s : Served). s.link.wire.broken) c.self.view_is ∙ c.requires.whole in
    absurd (cc)

pub returns-in-Err-Broken-clause-taken : goal.returns-in-Err-Broken-clause-taken
returns-in-Err-Broken-clause-taken c =
    let came : c.arrived.result ≡ Err (fault.Broken c.in-Err-Broken.field-0-0) = cc in
    let some = (c.arrived.ensures.gone c.in-Err-Broken.field-0-0).0 came in
    let none : c.self.inside.link.wire.broken ≡ None = ap (λ (s : Served). s.link.wire.broken) c.self.view_is ∙ c.requires.whole in
    absurd (cc)
