use Rattle.std.proofs.Common.{sym, subst}
use Rattle.policy_rack.specs.Kinds.{first_place}
use Rattle.policy_rack.specs.Steps.{RackSeen}
use Rattle.channel_net.specs.Askers.{TurnsWithin}
use Rattle.channel_net.proofs.AskLaws.{within-adopted}
use Rattle.channel_net.proofs.asker.Asker.adopt.Goals as goal

pub invariant_of-self : goal.invariant_of-self
invariant_of-self g c =
    subst (λ (r : RackSeen). TurnsWithin c.self.inside.asks r.policies) (sym c.adopt.ensures.after) (within-adopted c.self.inside.asks c.args.subs.now (first_place c.args.kind c.self.inside.rack.policies) c.self.inside.rack c.self.invariant)
