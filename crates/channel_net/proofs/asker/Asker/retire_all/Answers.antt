use Rattle.std.proofs.Common.{sym, subst}
use Rattle.policy_rack.specs.Steps.{RackSeen}
use Rattle.channel_net.specs.Askers.{TurnsWithin}
use Rattle.channel_net.proofs.AskLaws.{within-retired}
use Rattle.channel_net.proofs.asker.Asker.retire_all.Goals as goal

pub invariant_of-self : goal.invariant_of-self
invariant_of-self g c =
    subst (λ (r : RackSeen). TurnsWithin c.self.inside.asks r.policies) (sym c.retire_all.ensures) (within-retired c.self.inside.asks c.self.inside.rack c.self.invariant)
