use Rattle.std.proofs.Common.{ap, ◌∙◌, is_some, Option, ℕ}
use Rattle.subchannel.proofs.NumberLaws.{has_live-found}
use Rattle.subchannel.proofs.keep.has_live_sub.Goals as goal

pub returns : goal.returns
returns c =
    c.is_some.ensures ∙ ap (λ (o : Option ℕ). is_some o) c.first_of_address.ensures ∙ has_live-found c.args.subs.now c.args.live.now c.args.address c.requires
