use Rattle.live_pump.proofs.RunLaws.{is_left_closed, stays_open}
use Rattle.live_pump.proofs.link_turn.close_unless.Goals as goal

pub returns-then-going : goal.returns-then-going
returns-then-going g c = stays_open _ _ c.args.going c.args.kept.now c.if-going.true

pub returns : goal.returns
returns g c = is_left_closed _ _ c.args.going c.args.kept.now c.close_link.new.kept c.if-going.false c.close_link.ensures
