use Rattle.std.proofs.Common.{◌≡◌, ◌<◌, ℕ, suc, None, ◌∙◌, ap, drop, length, rules}
use Rattle.relay_connection.proofs.Taking.{one_frame, open_as}
use Rattle.relay_connection.proofs.connection.RelayConnection.take.Goals as goal

pub loop-self-preserved : goal.loop-self-preserved
loop-self-preserved c =
    let whole : c.loop-self.self.link.wire.broken ≡ None = search rules in
    let some : 0 < length c.loop-self.rest.now = search rules in
    (suc c.loop-self.invariant.0, one_frame (record { state = record { relay = c.args.self.now; asks = c.args.asks.now.items }; rest = c.args.piece.now }) (record { state = record { relay = c.loop-self.self; asks = c.loop-self.asks.items }; rest = c.loop-self.rest.now }) (record { state = record { relay = c.take_frame.new.self; asks = c.take_frame.new.asks.items }; rest = c.afterwards-rest.result.now }) c.loop-self.invariant.0 c.loop-self.invariant.1 (open_as (record { state = record { relay = c.loop-self.self; asks = c.loop-self.asks.items }; rest = c.loop-self.rest.now }) whole some) c.in_ok-taken.ensures.relay c.in_ok-taken.ensures.asks (c.afterwards-rest.ensures ∙ ap (λ (n : ℕ). drop n c.loop-self.rest.now) c.in_ok-taken.ensures.taken))
