-- What a piece of a client's bytes does, one frame after the other.
use Rattle.std.specs.Prelude.{◌≡◌, ℕ, zero, suc, ◌==◌, Bool, true, ◌||◌, if◌then◌else◌, is_some, List, ◌++◌, length, drop}
use Rattle.h2_server.specs.Received.{Receiving, handled}
use Rattle.relay_connection.specs.Relay.{Report, reported}

-- a connection with what it asked so far, and what is left of the piece
pub record Arriving : Type 0 where
  pub state : Report
  pub rest : List ℕ

-- one frame: the link's news, and what is asked for them
abbrev pub reported_of : Report → Receiving → Report
reported_of x h =
    let t = reported (record x.relay { link = h.link }) h.news in record { relay = t.relay; asks = x.asks ++ t.asks }

abbrev pub is_done : Arriving → Bool
is_done a = is_some a.state.relay.link.wire.broken || (length a.rest == 0)

abbrev pub stepped : Arriving → Arriving
stepped a =
    if is_done a then a
    else
    (let h = handled a.state.relay.link a.rest in
    record { state = reported_of a.state h; rest = drop h.taken a.rest })

-- so many frames of a piece
abbrev pub after_steps : ℕ → Arriving → Arriving
after_steps zero a = a
after_steps (suc n) a = stepped (after_steps n a)

-- a piece is taken up to its end, or until the link is broken
pub record Arrives (before : Report) (piece : List ℕ) (after : Report) : Type 0 where
  pub count : ℕ
  pub state : (after_steps count (record { state = before; rest = piece })).state ≡ after
  pub done : is_done (after_steps count (record { state = before; rest = piece })) ≡ true
