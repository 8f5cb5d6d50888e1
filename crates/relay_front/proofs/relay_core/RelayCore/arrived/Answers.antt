use Rattle.std.proofs.Common.{◌≡◌, ℕ, Some, Err, subst}
use Rattle.std.specs.Prelude.{◌↔◌}
use Rattle.relay_connection.specs.declared.fault.RelayFault.TheVariants as refused
use Rattle.relay_front.specs.Cores.{Core}
use Rattle.relay_front.proofs.relay_core.RelayCore.arrived.Goals as goal

pub returns-clause-broken : goal.returns-clause-broken
returns-clause-broken c = subst (λ (x : Core). (code : ℕ) → (c.arrived.result ≡ Err (refused.Broken code)) ↔ (x.relay.link.wire.broken ≡ Some code)) c.self.view_is c.arrived.ensures.broken
