use Rattle.std.proofs.Common.{◌∙◌, Some, ap, length}
use Rattle.live_mode.specs.declared.sides.Side.TheVariants as side
use Rattle.live_mode.proofs.SideLaws.{two_popped}
use Rattle.live_mode.proofs.sides.parted.Goals as goal

pub returns : goal.returns
returns g c =
    two_popped c.args.sides.items c.pop-last.new.self.items c.pop-first.new.self.items c.pop-first.result c.pop-last.result (side.Links c.in-Some-Links.links) (side.Calls c.in-Some-Calls.calls)
    (ap length c.requires.two.2) c.pop-last.ensures.items c.pop-first.ensures.items (c.in-Some-Calls.is ∙ ap (λ x. Some x) c.in-Some-Calls.field-0-is) (c.in-Some-Links.is ∙ ap (λ x. Some x) c.in-Some-Links.field-0-is)
