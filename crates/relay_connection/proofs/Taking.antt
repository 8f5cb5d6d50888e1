-- A piece, one frame after the other.
use Rattle.std.proofs.Common.{◌≡◌, ℕ, suc, ◌<◌, false, List, ◌++◌, length, refl, sym, ◌∙◌, ap, ap₂, None}
use Rattle.std.specs.Prelude.{drop, is_some}
use Rattle.h2_server.specs.Received.{handled}
use Rattle.relay_asks.specs.declared.ask.RelayAsk.{RelayAsk}
use Rattle.relay_connection.specs.Arriving.{Arriving, after_steps, is_done, stepped, reported_of}
use Rattle.relay_connection.specs.Relay.{Relay, reported}
use Rattle.relay_connection.proofs.Pieces.{not_done}

pub open_as : (a : Arriving) → a.state.relay.link.wire.broken ≡ None → 0 < length a.rest → is_done a ≡ false
open_as a b s = not_done a (record { whole = ap is_some b; some = s })

-- one frame of a piece
pub one_frame : (start a b : Arriving) (n : ℕ) → after_steps n start ≡ a → is_done a ≡ false
    → b.state.relay ≡ (reported (record a.state.relay { link = (handled a.state.relay.link a.rest).link }) (handled a.state.relay.link a.rest).news).relay
    → b.state.asks ≡ a.state.asks ++ (reported (record a.state.relay { link = (handled a.state.relay.link a.rest).link }) (handled a.state.relay.link a.rest).news).asks
    → b.rest ≡ drop (handled a.state.relay.link a.rest).taken a.rest → after_steps (suc n) start ≡ b
one_frame start a b n e d relay asks rest =
    let h = handled a.state.relay.link a.rest in
    let made : stepped a ≡ record { state = reported_of a.state h; rest = drop h.taken a.rest } = rw d refl in
    let first : ◌≡◌ {A = Arriving} (record { state = reported_of a.state h; rest = drop h.taken a.rest }) (record { state = b.state; rest = drop h.taken a.rest }) =
    ap₂ (λ (r : Relay) (l : List RelayAsk). record { state = record { relay = r; asks = l }; rest = drop h.taken a.rest }) (sym relay) (sym asks) in
    ap stepped e ∙ (made ∙ (first ∙ ap (λ (t : List ℕ). record { state = b.state; rest = t }) (sym rest)))
