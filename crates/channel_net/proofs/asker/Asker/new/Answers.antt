use Rattle.std.proofs.Common.{map, sym, subst}
use Rattle.policy_rack.specs.Steps.{RackSeen}
use Rattle.channel_net.specs.Askers.{TurnsWithin}
use Rattle.channel_net.proofs.AskLaws.{within-new}
use Rattle.channel_net.proofs.asker.Asker.new.Goals as goal

pub invariant_of-result : goal.invariant_of-result
invariant_of-result g c =
    subst (λ (r : RackSeen). TurnsWithin 0 r.policies) (sym c.new.ensures) (within-new (map g.P.Balancer.seen c.args.policies.items))
