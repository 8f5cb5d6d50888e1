-- The link of a drain is there, and the room is enough; and small things.
use Rattle.std.proofs.Common.{◌≡◌, ◌≤◌, ◌<◌, ◌&&◌, ◌||◌, ◌∷◌, ap, arith, refl, subst, sym, ◌∙◌, Bool, true, false, List, [], Option, None, Some, ℕ, zero, suc, if◌then◌else◌, is_some, length, map, min, nat_le, nat_lt, not, slice_get, slice_set}
use Rattle.std.proofs.Math.Nat.{min-eq_left, min-eq_right}
use Rattle.std.proofs.lemmas.Bool.{le-leb, leb-false, leb-true, ltb-false}
use Rattle.std.specs.List.{list_any}
use Rattle.channel_core.specs.Draining.{drained_limit}
use Rattle.channel_core.specs.Feeding.{all_fed, book_fed}
use Rattle.channel_core.specs.Tables.{drains_at}
use Rattle.channel_core.specs.declared.state.book.Book.{Book}
use Rattle.channel_core.specs.declared.state.links.LinkSlot.{LinkSlot}
use Rattle.channel_actions.specs.DrainWrites.Laws.{writing}
use Rattle.grpc_base.specs.declared.event.Refusal.TheVariants as refusal
use Rattle.session_actions.specs.Laws.{posted_in}
use Rattle.session_actions.specs.Links.{is_retiring}
use Rattle.session_actions.specs.Reading.{is_outstanding_on}
use Rattle.session_actions.specs.Refusals.{is_gone, is_shutdown_sub, link_refusal, refused_if}
use Rattle.session_actions.specs.Words.{changed, changed_if, numbered}
use Rattle.session_actions.specs.declared.link.Link.{Link}
use Rattle.session_actions.specs.declared.link.LinkOver.{LinkOver}
use Rattle.session_actions.specs.declared.link.Sent.{Sent}
use Rattle.session_actions.specs.declared.seen.Seen.{Seen}

-- small things
pub and_no : (b : Bool) → (b && false) ≡ false
and_no true = refl
and_no false = refl

pub if_none : {X : Type 0} (b : Bool) (z : Option X) → z ≡ None → (if b then z else None) ≡ None
if_none true z e = e
if_none false z e = refl

pub none_posted : (n : ℕ) (sent : List Sent) → posted_in (map (writing n) sent) ≡ []
none_posted n [] = refl
none_posted n (x ∷ sent) = none_posted n sent

length_set : (xs : List Link) (i : ℕ) (x : Link) → length (slice_set xs i x) ≡ length xs
length_set [] i x = refl
length_set (y ∷ xs) zero x = refl
length_set (y ∷ xs) (suc i) x = ap suc (length_set xs i x)

length_if : (f : Link → Link) (i : ℕ) (xs : List Link) (o : Option Link) → length (changed_if f (suc i) xs o) ≡ length xs
length_if f i xs None = refl
length_if f i xs (Some x) = length_set xs i (f x)

pub length_changed : (f : Link → Link) (n : ℕ) (xs : List Link) → length (changed f n xs) ≡ length xs
length_changed f zero xs = refl
length_changed f (suc i) xs = length_if f i xs (slice_get xs i)

pub one_some : {X : Type 0} (a b : X) (o : Option X) → o ≡ Some a → o ≡ Some b → a ≡ b
one_some a b o e f = let both : Some a ≡ Some b = sym e ∙ f in (cc)

-- the link, which is not gone, and the room
pub record IsThere (s : Seen) (link room : ℕ) : Type 0 where
  pub l : Link
  pub here : numbered s.links link ≡ Some l
  pub over : l.over ≡ None
  pub enough : nat_lt room 16393 ≡ false

no_over : (o : Option LinkOver) (b : Bool) → (is_some o || b) ≡ false → o ≡ None
no_over None b e = refl
no_over (Some z) b e = absurd (cc)

there_if : (s : Seen) (link room : ℕ) (l : Link) → numbered s.links link ≡ Some l → (gone small : Bool) → is_gone l s ≡ gone → nat_lt room 16393 ≡ small
    → (if gone then Some refusal.LinkGone else if small then Some refusal.RoomTooSmall else None) ≡ None → IsThere s link room
there_if s link room l here true small e f none = absurd (cc)
there_if s link room l here false true e f none = absurd (cc)
there_if s link room l here false false e f none = record {
  l = l;
  here = here;
  over = no_over l.over ((is_retiring l || is_shutdown_sub s l.sub) && not (list_any (is_outstanding_on l) s.attempts)) e;
  enough = f;
}

pub there_by : (s : Seen) (link room : ℕ) (o : Option Link) → numbered s.links link ≡ o → link_refusal s o (refused_if (nat_lt room 16393) refusal.RoomTooSmall None) ≡ None → IsThere s link room
there_by s link room None here none = absurd (cc)
there_by s link room (Some l) here none = there_if s link room l here (is_gone l s) (nat_lt room 16393) refl refl none

min_if : (a b n : ℕ) (c : Bool) → nat_le a b ≡ c → n ≤ a → n ≤ b → n ≤ min a b
min_if a b n true e low high = subst (λ (m : ℕ). n ≤ m) (sym (min-eq_left (leb-true a b e))) low
min_if a b n false e low high =
    let less : b < a = leb-false a b e in
    let under : b ≤ a = omega (arith, less) in subst (λ (m : ℕ). n ≤ m) (sym (min-eq_right under)) high

min_by : (a b n : ℕ) → n ≤ a → n ≤ b → n ≤ min a b
min_by a b n low high = min_if a b n (nat_le a b) refl low high

at_least : (room : ℕ) → 16393 ≤ room → 16393 ≤ min room drained_limit
at_least room low = min_by room drained_limit 16393 low (let most : 16393 ≤ drained_limit = omega arith in most)

-- a drain that may be, does drain
pub may_drain : (room : ℕ) (slot : LinkSlot) → nat_lt room 16393 ≡ false → slot.link.link.wire.broken ≡ None → drains_at (min room drained_limit) (Some slot) ≡ true
may_drain room slot enough whole =
    let low : 16393 ≤ room = ltb-false room 16393 enough in
    let least : 16393 ≤ min room drained_limit = at_least room low in
    ap (λ (o : Option ℕ). not (is_some o) && nat_le 16393 (min room drained_limit)) whole ∙ le-leb 16393 (min room drained_limit) least

-- what links take of a book leaves all of it but the calls
pub fed_form : (feeds : List (ℕ × ℕ)) (b : Book) → all_fed feeds b ≡ record b { calls = (all_fed feeds b).calls }
fed_form [] b = refl
fed_form (f ∷ feeds) b = fed_form feeds (book_fed f.0 f.1 b)
