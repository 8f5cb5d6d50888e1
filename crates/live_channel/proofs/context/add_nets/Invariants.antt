use Rattle.std.proofs.Common.{◌≡◌, ◌≤◌, ◌+◌, ◌++◌, List, map, length}
use Rattle.std.specs.Vec.Iter.{into_iter_items}
use Rattle.grpc_base.specs.declared.event.Entry.{Entry}
use Rattle.turn_lock.specs.History.{SeatSeen}
use Rattle.live_channel.specs.Handles.{OfLinks, Splits, keepers_in, seats_in}
use Rattle.live_channel.proofs.context.add_nets.Given as goal

-- a part was given for each dialer that was taken, and a worker
abbrev pub invariant-loop-dialer : goal.invariant-loop-dialer
invariant-loop-dialer g l = record {
  lock : l.seat.lock ≡ l.fn.seat.lock;
  most : l.left ≤ 4;
  parts : l.fn.seat.parts + l.left ≤ l.seat.parts + 4;
  splits : (start : SeatSeen Entry) → Splits start (seats_in (λ h. h.seat) l.fn.links.items) l.fn.seat → Splits start (seats_in (λ h. h.seat) l.links.items) l.seat;
  given : (done : List g.row.N.Denot) × (l.fn.dialers.items ≡ done ++ into_iter_items l.rest) × (keepers_in g.N.Dialer.coming l.links.items ≡ keepers_in g.N.Dialer.coming l.fn.links.items ++ map (λ d. OfLinks (g.N.Dialer.coming d)) done);
}

abbrev pub decreases-loop-dialer : goal.decreases-loop-dialer
decreases-loop-dialer g l = length (into_iter_items l.rest)
