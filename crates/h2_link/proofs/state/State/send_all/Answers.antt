use Rattle.std.proofs.Common.{◌≡◌, true, ◌-◌, arith}
use Rattle.h2_link.proofs.Sending.{more}
use Rattle.h2_link.proofs.state.State.send_all.Goals as goal

pub loop-out-preserved : goal.loop-out-preserved
loop-out-preserved g c =
    let yes : c.in_ok-send_one.field-0 ≡ true = c.if-not-branch.false in
    let went = rw yes at c.in_ok-send_one.ensures.went in
    let next = more c.args.room (c.from.result - c.len.result) c.args.self.now (g.F.Feed.lines c.args.feed.now) c.loop-out.out.items c.loop-out.self (g.F.Feed.lines c.loop-out.feed) c.send_one.new.self (g.F.Feed.lines c.send_one.new.feed) c.send_one.new.out.items c.loop-out.invariant.so_far (omega (arith, c.from.ensures, c.len.ensures.value)) went in
    record { so_far = next.so_far; same = g.met.F.Feed.same_on c.args.feed.now c.loop-out.feed c.send_one.new.feed c.loop-out.invariant.same c.send_one.ensures.same }
