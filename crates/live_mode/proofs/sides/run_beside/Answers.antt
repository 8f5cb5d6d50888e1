use Rattle.live_mode.proofs.SideLaws.{both_done, ones_by, ready_two, run_done, still_two}
use Rattle.live_mode.proofs.sides.run_beside.Goals as goal

pub work_both-requires-clause-ready : goal.work_both-requires-clause-ready
work_both-requires-clause-ready g c κs within = ready_two (λ h. h.seat) c.args.links c.args.calls c.in_ok-sides.sides.items c.in_ok-sides.ensures c.requires.calls

pub parted-links-requires : goal.parted-links-requires
parted-links-requires g c = record { two = still_two (λ h. h.seat) g.N.Dialer.coming c.args.links c.args.calls c.in_ok-sides.sides.items c.work_both.new.sides.items c.in_ok-sides.ensures c.work_both.ensures.count c.work_both.ensures.each }

pub close_links-requires-clause-ones : goal.close_links-requires-clause-ones
close_links-requires-clause-ones g c κs within =
    let both = both_done (λ h. h.seat) g.N.Dialer.coming c.args.links c.parted-links.result.0 c.args.calls c.parted-links.result.1 c.in_ok-sides.sides.items c.work_both.new.sides.items c.in_ok-sides.ensures c.parted-links.ensures c.work_both.ensures.each in
    ones_by (λ h. h.seat) g.N.Dialer.coming c.args.links c.parted-links.result.0 c.args.calls c.parted-links.result.1 both.0 both.1 c.requires.links

pub returns : goal.returns
returns g c =
    let both = both_done (λ h. h.seat) g.N.Dialer.coming c.args.links c.parted-links.result.0 c.args.calls c.parted-links.result.1 c.in_ok-sides.sides.items c.work_both.new.sides.items c.in_ok-sides.ensures c.parted-links.ensures c.work_both.ensures.each in
    run_done (λ h. h.seat) g.N.Dialer.coming c.args.links c.parted-links.result.0 c.args.calls c.parted-links.result.1 _ _ both.0 both.1 c.requires.links c.close_links.ensures.lock c.close_links.ensures.parts c.close_links.ensures.leaves c.close_links.ensures.worse
