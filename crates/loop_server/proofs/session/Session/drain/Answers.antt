use Rattle.std.proofs.Common.{◌≡◌, suc, true, []}
use Rattle.loop_server.proofs.Going.{goes_on}
use Rattle.loop_server.proofs.session.Session.drain.Goals as goal

pub loop-out-smaller : goal.loop-out-smaller
loop-out-smaller c =
    let yes : c.in_ok-give_next.field-0 ≡ true = c.if-not-branch.false in
    let went = rw yes at c.in_ok-give_next.ensures in
    let on = goes_on c.args.lines.now (record { session = c.args.self.now; answered = c.args.answered.now; octets = [] }) (record { session = c.loop-out.self; answered = c.loop-out.answered; octets = c.loop-out.out.items }) (record { session = c.give_next.new.self; answered = c.give_next.new.answered; octets = c.give_next.new.out.items }) c.loop-out.invariant.0 c.loop-out.invariant.1 went in
    on.lighter

pub loop-out-preserved : goal.loop-out-preserved
loop-out-preserved c =
    let yes : c.in_ok-give_next.field-0 ≡ true = c.if-not-branch.false in
    let went = rw yes at c.in_ok-give_next.ensures in
    let on = goes_on c.args.lines.now (record { session = c.args.self.now; answered = c.args.answered.now; octets = [] }) (record { session = c.loop-out.self; answered = c.loop-out.answered; octets = c.loop-out.out.items }) (record { session = c.give_next.new.self; answered = c.give_next.new.answered; octets = c.give_next.new.out.items }) c.loop-out.invariant.0 c.loop-out.invariant.1 went in
    (suc c.loop-out.invariant.0, on.given_is)
