-- What links drain of what they are lent.
use Rattle.std.proofs.Common.{◌≡◌, ◌∙◌, ℕ, ◌-◌, ◌<◌, ◌↔◌, true, not, ◌&&◌, nat_le, is_some, IsTrue, List, [], ◌∷◌, refl, ap, slice_set, Option, Some, None, Result, Ok, Err, IfOk, inl, inr}
use Rattle.std.specs.List.{AllByRecursion}
use Rattle.std.proofs.lemmas.Bool.{cases_Bool, leb-false}
use Rattle.h2_link.specs.Feeds.{Holds, Line}
use Rattle.h2_link.specs.Wire.{Wire}
use Rattle.h2_link.specs.declared.fault.DrainFault.{DrainFault}
use Rattle.h2_link.specs.declared.fault.DrainFault.TheVariants as fault
use Rattle.h2_link.specs.declared.live.LiveStream.{LiveStream}
use Rattle.h2_link.specs.declared.news.Drained.{Drained}
use Rattle.channel_core.specs.Tables.{DrainGives, SlotGives, drains_at, numbered}
use Rattle.channel_core.specs.declared.state.links.LinkSlot.{LinkSlot}
use Rattle.channel_core.proofs.Places.{put_changed, put_same}

-- where every tag is held, so are those of any link
each : {X : Type 0} (P : X → Type 0) → ((x : X) → P x) → (xs : List X) → AllByRecursion P xs
each P all [] = tt
each P all (x ∷ xs) = (all x, each P all xs)

pub holds_all : (w : Wire) (g : ℕ → Line) → ((t : ℕ) → (g t).held ≡ true) → Holds w g
holds_all w g held = record {
  waiting = each (λ t. (g t).held ≡ true) held w.waiting;
  live = each (λ (s : LiveStream). (g s.tag).held ≡ true) (λ s. held s.tag) w.live;
}

-- a drain that comes through is of a link that is not broken, with room enough
pub may_drain : {X D : Type 0} (room : ℕ) (broken : Option X) (r : Result D DrainFault) (d : D) → r ≡ Ok d → ((r ≡ Err fault.Gone) ↔ IsTrue (is_some broken))
    → ((r ≡ Err fault.RoomTooSmall) ↔ ((broken ≡ None) × (room < 16393))) → (not (is_some broken) && nat_le 16393 room) ≡ true
may_drain room (Some b) r d is gone small = let e : r ≡ Err fault.Gone = gone.1 refl in absurd (let no : ⊥ = (cc) in no)
may_drain room None r d is gone small =
    elim (cases_Bool (nat_le 16393 room)) [
      | inl fits ↦ fits
      | inr short ↦ let e : r ≡ Err fault.RoomTooSmall = small.1 (refl, leb-false 16393 room short) in absurd (let no : ⊥ = (cc) in no)
    ]

-- a drain of a link is one of the table
pub drain_put : {E : Type 0} (room : ℕ) (links : List LinkSlot) (link : ℕ) (lines lines_after : ℕ → Line) (x y : LinkSlot) (r : Result (Option Drained) E) → numbered links link ≡ Some x
    → IfOk r (λ d. SlotGives room x lines d y lines_after) → IfOk r (λ d. DrainGives room links link lines d (slice_set links (link - 1) y) lines_after)
drain_put room links link lines lines_after x y (Ok None) is gives = (ap (drains_at room) is ∙ gives.0, put_same links link x y is gives.1, gives.2)
drain_put room links link lines lines_after x y (Ok (Some d)) is gives = record {
  before = x;
  after = y;
  was = is;
  drains = gives;
  is = put_changed (λ s. y) links link x y is refl;
}
drain_put room links link lines lines_after x y (Err e) is gives = gives

-- nothing is drained by a number that names no link
pub no_drain : (room : ℕ) (links : List LinkSlot) (link : ℕ) (lines : ℕ → Line) → numbered links link ≡ None → DrainGives room links link lines None links lines
no_drain room links link lines is = (ap (drains_at room) is, refl, refl)
