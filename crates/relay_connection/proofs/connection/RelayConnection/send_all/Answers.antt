use Rattle.std.proofs.Common.{◌≡◌, ℕ, suc, true, [], ◌-◌, length, ◌∙◌, ap}
use Rattle.relay_connection.proofs.Going.{goes_on}
use Rattle.relay_connection.proofs.Weights.{lighter_then}
use Rattle.relay_connection.proofs.connection.RelayConnection.send_all.Goals as goal

pub loop-out-smaller : goal.loop-out-smaller
loop-out-smaller c =
    let yes : c.in_ok-send_next.field-0 ≡ true = c.if-not-branch.false in
    let went = rw yes at c.in_ok-send_next.ensures in
    lighter_then c.saturating_sub-left.result (record { relay = c.loop-out.self; octets = c.loop-out.out.items }) (record { relay = c.send_next.new.self; octets = c.send_next.new.out.items }) went

pub loop-out-preserved : goal.loop-out-preserved
loop-out-preserved c =
    let yes : c.in_ok-send_next.field-0 ≡ true = c.if-not-branch.false in
    let went = rw yes at c.in_ok-send_next.ensures in
    let left : c.saturating_sub-left.result ≡ c.args.room - length c.loop-out.out.items = c.saturating_sub-left.ensures ∙ ap (λ (n : ℕ). c.args.room - n) c.len.ensures.value in
    (suc c.loop-out.invariant.0, goes_on c.args.room c.loop-out.invariant.0 c.saturating_sub-left.result (record { relay = c.args.self.now; octets = [] }) (record { relay = c.loop-out.self; octets = c.loop-out.out.items }) (record { relay = c.send_next.new.self; octets = c.send_next.new.out.items }) c.loop-out.invariant.1 left went)
