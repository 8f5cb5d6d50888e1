-- What a link receives, and the table that it stands in.
use Rattle.std.proofs.Common.{◌≡◌, ◌∙◌, ℕ, ◌-◌, true, false, if◌then◌else◌, List, refl, sym, ap, slice_set, Option, Some, None, Result, Ok, Err, IfOk, OnOk}
use Rattle.std.specs.Option.{option_map}
use Rattle.grpc_link.specs.declared.link.GrpcArrival.{GrpcArrival}
use Rattle.ledger_stamps.specs.Steps.{changed_at}
use Rattle.channel_core.specs.Tables.{arrival_at, arrival_by, arrival_of, received_at, received_by, received_in, received_link, receives_at, links_received, numbered, with_link}
use Rattle.channel_core.specs.declared.state.links.LinkSlot.{LinkSlot}
use Rattle.channel_core.proofs.Places.{put_if}

arrival_same : (piece : List ℕ) (o : Option LinkSlot) (link : ℕ) (links : List LinkSlot) → arrival_at piece o ≡ option_map arrival_of (received_at o link piece links)
arrival_same piece None link links = refl
arrival_same piece (Some slot) link links =
    elim (receives_at (Some slot)) as (λ b. (if b then Some (arrival_by piece slot) else None) ≡ option_map arrival_of (if b then Some (received_by slot link piece links) else None))
    [ true ↦ refl | false ↦ refl ]

received_same : (piece : List ℕ) (o : Option LinkSlot) (link : ℕ) (links : List LinkSlot)
    → (if receives_at o then changed_at (with_link (received_link piece)) links link else links) ≡ links_received links (received_at o link piece links)
received_same piece None link links = refl
received_same piece (Some slot) link links =
    elim (receives_at (Some slot)) as (λ b. (if b then changed_at (with_link (received_link piece)) links link else links) ≡ links_received links (if b then Some (received_by slot link piece links) else None))
    [ true ↦ refl | false ↦ refl ]

-- what the link of a number receives, where it is written back
pub arrival_put : {E : Type 0} (piece : List ℕ) (link : ℕ) (links : List LinkSlot) (x : LinkSlot) (r : Result (Option GrpcArrival) E) → numbered links link ≡ Some x
    → IfOk r (λ a. a ≡ arrival_at piece (Some x)) → IfOk r (λ a. a ≡ option_map arrival_of (received_in link piece links))
arrival_put piece link links x (Ok a) is new = new ∙ ap (arrival_at piece) (sym is) ∙ arrival_same piece (numbered links link) link links
arrival_put piece link links x (Err e) is new = new

pub received_put : {T E : Type 0} (piece : List ℕ) (link : ℕ) (links : List LinkSlot) (x y : LinkSlot) (r : Result T E) → numbered links link ≡ Some x
    → OnOk r (y ≡ (if receives_at (Some x) then with_link (received_link piece) x else x)) → OnOk r (slice_set links (link - 1) y ≡ links_received links (received_in link piece links))
received_put {T} {E} piece link links x y (Ok u) is new =
    put_if {E = E} receives_at (with_link (received_link piece)) links link x y (Ok u) is new ∙ received_same piece (numbered links link) link links
received_put piece link links x y (Err e) is new = new
