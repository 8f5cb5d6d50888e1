use Rattle.std.proofs.Common.{◌≡◌, ◌∙◌, true, List, ap, sym, subst}
use Rattle.grpc_base.specs.Kinds.{has_kind}
use Rattle.lb_policy.specs.Table.{PolicySeen}
use Rattle.policy_rack.specs.Kinds.{kinds_of}
use Rattle.channel_net.specs.Steps.{NetSeen, kept_shut, net_adopted, net_kept}
use Rattle.channel_net.proofs.net.Net.take_result.Goals as goal

pub adopt-requires : goal.adopt-requires
adopt-requires g c =
    let same : c.keep.new.self.asker.rack.policies ≡ c.args.self.now.asker.rack.policies =
    ap (λ (n : NetSeen). n.asker.rack.policies) c.in_ok-shut.ensures.after ∙ ap (λ (n : NetSeen). n.asker.rack.policies) c.take_list.ensures in
    subst (λ (ps : List PolicySeen). has_kind (kinds_of ps) c.args.kind ≡ true) (sym same) c.requires

pub returns-clause-after : goal.returns-clause-after
returns-clause-after g c =
    c.in_ok-adopt.ensures.after ∙ ap (net_adopted c.args.kind c.args.addresses.now) (c.in_ok-shut.ensures.after ∙ ap net_kept c.take_list.ensures)

pub returns-clause-shut : goal.returns-clause-shut
returns-clause-shut g c = c.in_ok-shut.ensures.shut ∙ ap kept_shut c.take_list.ensures
