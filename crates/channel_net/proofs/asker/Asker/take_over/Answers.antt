use Rattle.std.proofs.Common.{sym, subst}
use Rattle.policy_rack.specs.Steps.{RackSeen}
use Rattle.channel_net.specs.Askers.{TurnsWithin}
use Rattle.channel_net.proofs.AskLaws.{within-taken_over}
use Rattle.channel_net.proofs.asker.Asker.take_over.Goals as goal

pub invariant_of-self : goal.invariant_of-self
invariant_of-self g c =
    subst (λ (r : RackSeen). TurnsWithin c.self.inside.asks r.policies) (sym c.take_over.ensures.after) (within-taken_over c.self.inside.asks c.self.inside.rack c.self.invariant)
