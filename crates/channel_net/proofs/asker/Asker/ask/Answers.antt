use Rattle.std.proofs.Common.{◌+◌, ◌∙◌, sym, subst}
use Rattle.policy_rack.specs.Steps.{RackSeen}
use Rattle.channel_net.specs.Askers.{TurnsWithin}
use Rattle.channel_net.proofs.AskLaws.{may-turn, within-asked}
use Rattle.channel_net.proofs.asker.Asker.ask.Goals as goal

pub ask-generation-requires : goal.ask-generation-requires
ask-generation-requires g c = may-turn c.self.inside.asks c.self.inside.rack (sym c.may_ask.ensures ∙ c.if-not-may_ask.false) c.self.invariant

pub invariant_of-self : goal.invariant_of-self
invariant_of-self g c =
    subst (λ (r : RackSeen). TurnsWithin (c.self.inside.asks + 1) r.policies) (sym c.ask-generation.ensures.after) (within-asked c.self.inside.asks c.self.inside.rack c.self.invariant)
