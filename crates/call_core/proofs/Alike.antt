-- What a write leaves of every row of the ledger.
use Rattle.std.proofs.Common.{◌≡◌, ℕ, zero, suc, ◌+◌, Bool, true, false, nat_lt, if◌then◌else◌, length, Option, Some, None, List, [], ◌∷◌, ◌++◌, refl, ap, subst, ◌⊎◌, inl, inr, arith, slice_get}
use Rattle.std.specs.Option.{option_map_or}
use Rattle.attempt_ledger.specs.declared.ledger.Ledger.{Ledger}
use Rattle.attempt_ledger.specs.declared.row.Row.{Row}
use Rattle.attempt_ledger.specs.declared.row.RowEnd.{RowEnd}
use Rattle.ledger_stamps.specs.Steps.{changed, changed_at, ended_row}
use Rattle.call_core.specs.declared.live.LiveRow.{LiveRow}
use Rattle.call_core.specs.Parts.{cut_end, names, read_of}
use Rattle.call_core.specs.Rows.{row_in}
use Rattle.call_core.specs.Steps.{cut_all, cut_row, cut_unless}

-- a relation between a row before and after, which every end keeps
pub record IsWrite (P : Row → Row → Type 0) : Type 0 where
  pub same : (r : Row) → P r r
  pub joined : (a b c : Row) → P a b → P b c → P a c
  pub ended : (end : RowEnd) (r : Row) → P r (ended_row end r)

abbrev pub LikeAt : (Row → Row → Type 0) → Option Row → Option Row → Type 0
LikeAt P None None = Unit {0}
LikeAt P (Some old) (Some new) = P old new
LikeAt P _ _ = ⊥

abbrev pub AreLike : (Row → Row → Type 0) → List Row → List Row → Type 0
AreLike P rows after = (place : ℕ) → LikeAt P (row_in rows place) (row_in after place)

like_same : (P : Row → Row → Type 0) → IsWrite P → (o : Option Row) → LikeAt P o o
like_same P w None = tt
like_same P w (Some r) = w.same r

like_joined : (P : Row → Row → Type 0) → IsWrite P → (a b c : Option Row) → LikeAt P a b → LikeAt P b c → LikeAt P a c
like_joined P w None None None first second = tt
like_joined P w None None (Some c) first second = absurd second
like_joined P w None (Some b) c first second = absurd first
like_joined P w (Some a) None c first second = absurd first
like_joined P w (Some a) (Some b) None first second = absurd second
like_joined P w (Some a) (Some b) (Some c) first second = w.joined a b c first second

pub all_same : (P : Row → Row → Type 0) → IsWrite P → (rows : List Row) → AreLike P rows rows
all_same P w rows = λ place. like_same P w (row_in rows place)

pub all_joined : (P : Row → Row → Type 0) → IsWrite P → (a b c : List Row) → AreLike P a b → AreLike P b c → AreLike P a c
all_joined P w a b c first second = λ place. like_joined P w (row_in a place) (row_in b place) (row_in c place) (first place) (second place)

-- a write to the row of a place
like_changed : (P : Row → Row → Type 0) → IsWrite P → (f : Row → Row) → ((r : Row) → P r (f r)) → (rows : List Row) (i j : ℕ) → LikeAt P (slice_get rows j) (slice_get (changed f rows i) j)
like_changed P w f ok [] i j = like_same P w (slice_get [] j)
like_changed P w f ok (r ∷ rows) zero zero = ok r
like_changed P w f ok (r ∷ rows) zero (suc j) = like_same P w (slice_get rows j)
like_changed P w f ok (r ∷ rows) (suc i) zero = w.same r
like_changed P w f ok (r ∷ rows) (suc i) (suc j) = like_changed P w f ok rows i j

like_index : (P : Row → Row → Type 0) → IsWrite P → (f : Row → Row) → ((r : Row) → P r (f r)) → (rows : List Row) (index : ℕ) (b : Bool) (j : ℕ) → LikeAt P (slice_get rows j) (slice_get (option_map_or (λ i. changed f rows i) (if b then Some index else None) rows) j)
like_index P w f ok rows index true j = like_changed P w f ok rows index j
like_index P w f ok rows index false j = like_same P w (slice_get rows j)

pub all_changed_at : (P : Row → Row → Type 0) → IsWrite P → (f : Row → Row) → ((r : Row) → P r (f r)) → (rows : List Row) (p q : ℕ) → LikeAt P (row_in rows q) (row_in (changed_at f rows p) q)
all_changed_at P w f ok rows p zero = tt
all_changed_at P w f ok rows zero (suc q) = like_same P w (slice_get rows q)
all_changed_at P w f ok rows (suc p) (suc q) = like_index P w f ok rows p (nat_lt p (length rows)) q

-- cuts
like_cut : (P : Row → Row → Type 0) → IsWrite P → (kept : Bool) (moment : ℕ) (tokens : Option ℕ) (place : ℕ) (l : Ledger) (link : Option ℕ) → AreLike P l.rows (if kept then l else cut_row moment tokens place l link).rows
like_cut P w true moment tokens place l link = all_same P w l.rows
like_cut P w false moment tokens place l None = all_same P w l.rows
like_cut P w false moment tokens place l (Some link) =
    let end : RowEnd = cut_end l.entry moment (read_of l.links link) tokens in
    all_changed_at P w (ended_row end) (λ r. w.ended end r) l.rows place

pub all_cut : (P : Row → Row → Type 0) → IsWrite P → (kept : Option ℕ) (moment : ℕ) (tokens : Option ℕ) (live : List LiveRow) (l : Ledger) → AreLike P l.rows (cut_all kept moment tokens live l).rows
all_cut P w kept moment tokens [] l = all_same P w l.rows
all_cut P w kept moment tokens (row ∷ live) l =
    let m : Ledger = cut_unless kept moment tokens row l in
    all_joined P w l.rows m.rows (cut_all kept moment tokens live m).rows
    (like_cut P w (names row.place kept) moment tokens row.place l row.link) (all_cut P w kept moment tokens live m)

-- what a row was, and what it is
pub record WasRow (P : Row → Row → Type 0) (o : Option Row) (new : Row) : Type 0 where
  pub row : Row
  pub there : o ≡ Some row
  pub like : P row new

pub record IsNowRow (P : Row → Row → Type 0) (old : Row) (o : Option Row) : Type 0 where
  pub row : Row
  pub there : o ≡ Some row
  pub like : P old row

pub like_from : (P : Row → Row → Type 0) (o p : Option Row) (new : Row) → LikeAt P o p → p ≡ Some new → WasRow P o new
like_from P None None new h e = absurd (cc)
like_from P None (Some x) new h e = absurd h
like_from P (Some r) None new h e = absurd h
like_from P (Some r) (Some x) new h e =
    let same : x ≡ new = (cc) in record { row = r; there = refl; like = subst (λ (y : Row). P r y) same h }

pub like_to : (P : Row → Row → Type 0) (o p : Option Row) (old : Row) → LikeAt P o p → o ≡ Some old → IsNowRow P old p
like_to P None p old h e = absurd (cc)
like_to P (Some r) None old h e = absurd h
like_to P (Some r) (Some x) old h e =
    let same : r ≡ old = (cc) in record { row = x; there = refl; like = subst (λ (y : Row). P y x) same h }

-- a row of a list with one more is one of the list, or the new one
get_after : (y x r : Row) (rows : List Row) (i : ℕ) → (slice_get rows i ≡ Some r) ⊎ ((i ≡ length rows) × (r ≡ x)) → (slice_get (y ∷ rows) (suc i) ≡ Some r) ⊎ ((suc i ≡ length (y ∷ rows)) × (r ≡ x))
get_after y x r rows i (inl e) = inl e
get_after y x r rows i (inr both) = inr (ap suc both.0, both.1)

get_split : (rows : List Row) (x : Row) (i : ℕ) (r : Row) → slice_get (rows ++ x ∷ []) i ≡ Some r → (slice_get rows i ≡ Some r) ⊎ ((i ≡ length rows) × (r ≡ x))
get_split [] x zero r e = inr (refl, (cc))
get_split [] x (suc i) r e = absurd (cc)
get_split (y ∷ rows) x zero r e = inl e
get_split (y ∷ rows) x (suc i) r e = get_after y x r rows i (get_split rows x i r e)

place_split : (rows : List Row) (x r : Row) (i : ℕ) → (slice_get rows i ≡ Some r) ⊎ ((i ≡ length rows) × (r ≡ x)) → (row_in rows (suc i) ≡ Some r) ⊎ ((suc i ≡ length rows + 1) × (r ≡ x))
place_split rows x r i (inl e) = inl e
place_split rows x r i (inr both) = let at : i ≡ length rows = both.0 in inr (omega (arith, at), both.1)

pub row_split : (rows : List Row) (x : Row) (q : ℕ) (r : Row) → row_in (rows ++ x ∷ []) q ≡ Some r → (row_in rows q ≡ Some r) ⊎ ((q ≡ length rows + 1) × (r ≡ x))
row_split rows x zero r e = absurd (cc)
row_split rows x (suc i) r e = place_split rows x r i (get_split rows x i r e)
