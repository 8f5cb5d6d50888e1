use Rattle.std.proofs.Common.{◌≡◌, true, false}
use Rattle.loop_server.proofs.Answering.{found, passed}
use Rattle.loop_server.proofs.session.Session.give_answer.Goals as goal

pub returns-then-branch : goal.returns-then-branch
returns-then-branch c =
    let yes : c.in_ok-give_at.field-0 ≡ true = c.if-branch.true in
    let went = rw yes at c.in_ok-give_at.ensures in
    found c.args.lines.now (record { session = c.loop-place.self; answered = c.loop-place.answered; octets = c.loop-place.out.items }) (record { session = c.args.self.now; answered = c.args.answered.now; octets = c.args.out.now.items }) (record { session = c.give_at.new.self; answered = c.give_at.new.answered; octets = c.give_at.new.out.items }) c.loop-place.place c.loop-place.invariant.same c.loop-place.invariant.first went

pub loop-place-preserved : goal.loop-place-preserved
loop-place-preserved c =
    let no : c.in_ok-give_at.field-0 ≡ false = c.if-branch.false in
    let went = rw no at c.in_ok-give_at.ensures in
    let on = passed c.args.lines.now (record { session = c.loop-place.self; answered = c.loop-place.answered; octets = c.loop-place.out.items }) (record { session = c.args.self.now; answered = c.args.answered.now; octets = c.args.out.now.items }) (record { session = c.give_at.new.self; answered = c.give_at.new.answered; octets = c.give_at.new.out.items }) c.loop-place.place c.loop-place.invariant.same c.loop-place.invariant.first went in
    record { same = on.same; first = on.first }
