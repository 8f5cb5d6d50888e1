-- The slot of a link that is being handled: what it keeps, what it reports, and what is left of it.
use Rattle.std.proofs.Common.{◌≡◌, ◌==◌, ◌||◌, ap, refl, sym, ◌∙◌, Bool, true, false, List, [], Option, None, Some, ℕ, if◌then◌else◌, is_some, length, not}
use Rattle.std.proofs.lemmas.Bool.{eqb-false}
use Rattle.std.specs.Option.{option_map}
use Rattle.channel_core.proofs.BookLaws.{number_changed, number_other}
use Rattle.channel_core.proofs.Resting.{changed_length}
use Rattle.channel_core.specs.Arrivals.{frame_received, handled, read_to}
use Rattle.channel_core.specs.States.{StateSeen}
use Rattle.channel_core.specs.Steps.{links_sealed, resets_taken, sealed_one}
use Rattle.channel_core.specs.Tables.{Received, received_at, received_by, received_in, received_link, receives_at, sealed_in, sealed_link, with_link}
use Rattle.channel_core.specs.declared.state.links.LinkSlot.{LinkSlot}
use Rattle.attempt_ledger.specs.declared.news.News.{News}
use Rattle.frame_cases.specs.PassedBytes.Laws.{relinked}
use Rattle.frame_cases.specs.PieceWalks.Points.{coming, with_rest}
use Rattle.ledger_stamps.specs.Steps.{changed_at, read_link}
use Rattle.session_actions.specs.Words.{numbered}

-- the slot as the channel has it
pub record IsSlot (link : ℕ) (piece : List ℕ) (x : StateSeen) (slot : LinkSlot) : Type 0 where
  pub old : LinkSlot
  pub there : numbered x.links link ≡ Some old
  pub is : slot ≡ with_rest piece old

slot_by : (link : ℕ) (piece : List ℕ) (x : StateSeen) (slot : LinkSlot) (o : Option LinkSlot) → numbered x.links link ≡ o → option_map (with_rest piece) o ≡ Some slot → IsSlot link piece x slot
slot_by link piece x slot None e got = let no : None ≡ Some slot = got in absurd (cc)
slot_by link piece x slot (Some old) e got = record { old = old; there = e; is = (let same : Some (with_rest piece old) ≡ Some slot = got in let one : slot ≡ with_rest piece old = (cc) in one) }

pub slot_of : (link : ℕ) (piece : List ℕ) (x : StateSeen) (slot : LinkSlot) → numbered (coming link piece x).links link ≡ Some slot → IsSlot link piece x slot
slot_of link piece x slot got =
    slot_by link piece x slot (numbered x.links link) refl (sym (number_changed (with_rest piece) x.links link) ∙ got)

-- a link that is not over receives
receives_by : (dead : Bool) (broken : Option ℕ) → dead ≡ false → broken ≡ None → not (dead || is_some broken) ≡ true
receives_by dead broken e f = ap (λ (b : Bool). not (b || is_some broken)) e ∙ ap (λ (o : Option ℕ). not (is_some o)) f

pub receives_now : (link : ℕ) (piece : List ℕ) (x : StateSeen) (slot : LinkSlot) → numbered x.links link ≡ Some slot → slot.dead ≡ false → slot.link.link.wire.broken ≡ None
    → received_in link piece x.links ≡ Some (received_by slot link piece x.links)
receives_now link piece x slot there alive whole =
    ap (λ (o : Option LinkSlot). received_at o link piece x.links) there
    ∙ ap (λ (b : Bool). if b then Some (received_by slot link piece x.links) else None) (receives_by slot.dead slot.link.link.wire.broken alive whole)

-- one that is over does not
deaf_by : (dead broken : Bool) → dead ≡ true → not (dead || broken) ≡ false
deaf_by dead broken e = ap (λ (b : Bool). not (b || broken)) e

pub receives_nothing : (link : ℕ) (piece : List ℕ) (x : StateSeen) (slot : LinkSlot) → numbered x.links link ≡ Some slot → slot.dead ≡ true → received_in link piece x.links ≡ None
receives_nothing link piece x slot there dead =
    ap (λ (o : Option LinkSlot). received_at o link piece x.links) there
    ∙ ap (λ (b : Bool). if b then Some (received_by slot link piece x.links) else None) (deaf_by slot.dead (is_some slot.link.link.wire.broken) dead)

-- the channel where nothing is reported
module _ (link : ℕ) (h : Received) (x : StateSeen) (resets : x.resets ≡ []) (none : h.news ≡ []) where
  abbrev slots : List LinkSlot
  slots = sealed_in link h.links

  abbrev reported : StateSeen
  reported = read_to link h.read (record x { links = h.links })

  pub unreported : frame_received link h x ≡ relinked slots (changed_at (read_link h.read) x.book.ledger.links link) x
  unreported =
      ap (λ (ns : List News). handled link ns reported) none
      ∙ ap (λ (rs : List ℕ). links_sealed rs (resets_taken (sealed_one link reported))) resets

-- the slots then
module _ (link : ℕ) (piece : List ℕ) (x : StateSeen) (slot : LinkSlot) (there : numbered x.links link ≡ Some slot) where
  abbrev after_links : List LinkSlot
  after_links = sealed_in link (received_by slot link piece x.links).links

  abbrev pub after_slot : LinkSlot
  after_slot = with_link sealed_link (with_link (received_link piece) slot)

  pub own_slot : numbered after_links link ≡ Some after_slot
  own_slot =
      number_changed (with_link sealed_link) (changed_at (with_link (received_link piece)) x.links link) link
      ∙ ap (option_map (with_link sealed_link)) (number_changed (with_link (received_link piece)) x.links link ∙ ap (option_map (with_link (received_link piece))) there)

  pub other_slots : (k : ℕ) → (link == k) ≡ false → numbered after_links k ≡ numbered x.links k
  other_slots k e =
      number_other (with_link sealed_link) (changed_at (with_link (received_link piece)) x.links link) link k (λ same. eqb-false link k e (sym same))
      ∙ number_other (with_link (received_link piece)) x.links link k (λ same. eqb-false link k e (sym same))

  pub slot_count : length after_links ≡ length x.links
  slot_count =
      changed_length (with_link sealed_link) (changed_at (with_link (received_link piece)) x.links link) link
      ∙ changed_length (with_link (received_link piece)) x.links link

-- the others as they are without the piece
pub others_coming : (link : ℕ) (piece : List ℕ) (x : StateSeen) (k : ℕ) → (link == k) ≡ false → numbered (coming link piece x).links k ≡ numbered x.links k
others_coming link piece x k e = number_other (with_rest piece) x.links link k (λ same. eqb-false link k e (sym same))
