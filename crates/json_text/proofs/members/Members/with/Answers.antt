use Rattle.std.proofs.Common.{rules, length, ◌≡◌}
use Rattle.json_text.proofs.Order.{one_more}
use Rattle.json_text.proofs.members.Members.with.Goals as goal

pub invariant_of-result : goal.invariant_of-result
invariant_of-result c =
    let old = c.args.self in
    let found = c.search-found in
    let bound = rw c.as_slice-2.ensures.value at found.ensures.bound in
    let position = rw (c.as_slice.ensures.value, c.as_slice-2.ensures.value, c.as_slice-3.ensures) at found.ensures.position in
    let place : c.len.result ≡ length old.list.items = search rules in
    let order = rw place at c.in_ok-order.ensures in
    let more = one_more old.list.items _ (c.args.name, c.args.value) old.order.items _ found.result c.in_ok-push.ensures.items order old.within old.whole old.rising bound position in
    record { within = more.0; whole = more.1; rising = more.2 }
