use Rattle.live_mode.proofs.SideLaws.{ones_by, run_done}
use Rattle.live_mode.proofs.sides.run_alone.Goals as goal

pub close_links-requires-clause-ones : goal.close_links-requires-clause-ones
close_links-requires-clause-ones g c κs within = ones_by (λ h. h.seat) g.N.Dialer.coming c.args.links c.keep.new.self c.args.calls c.make.new.self c.keep.ensures c.make.ensures c.requires.links

pub returns : goal.returns
returns g c = run_done (λ h. h.seat) g.N.Dialer.coming c.args.links c.keep.new.self c.args.calls c.make.new.self _ _ c.keep.ensures c.make.ensures c.requires.links c.close_links.ensures.lock c.close_links.ensures.parts c.close_links.ensures.leaves c.close_links.ensures.worse
