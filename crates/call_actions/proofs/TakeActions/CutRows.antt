-- The rows of the ledger, once a call is committed and its other attempts are cut off.
use Rattle.std.proofs.Common.{◌≡◌, ◌≤◌, ◌<◌, ◌+◌, ◌==◌, ◌∷◌, ◌++◌, ◌&&◌, not, append_assoc, ap, arith, refl, sym, ◌∙◌, Bool, true, false, List, [], Option, None, Some, ℕ, zero, suc, cond, filter, if◌then◌else◌, is_some, length, map, nat_lt, slice_get}
use Rattle.std.proofs.lemmas.Bool.{eq-eqb, lt-ltb, ltb-false, ne_eqb}
use Rattle.std.proofs.lemmas.List.{length-map}
use Rattle.std.proofs.lemmas.Option.{slice_get-map, slice_get_past, slice_get_within}
use Rattle.std.specs.List.{AllByRecursion}
use Rattle.std.specs.Option.{option_and_then, option_map, option_map_or}
use Rattle.attempt_ledger.specs.declared.ledger.Ledger.{Ledger}
use Rattle.attempt_ledger.specs.declared.ledger.LinkSeen.{LinkSeen}
use Rattle.attempt_ledger.specs.declared.row.Placed.{Placed}
use Rattle.attempt_ledger.specs.declared.row.Row.{Row}
use Rattle.attempt_ledger.specs.declared.row.RowEnd.{RowEnd}
use Rattle.call_actions.specs.Sees.{is_live, live_row}
use Rattle.call_core.specs.Parts.{cut_end, names, read_in, read_of}
use Rattle.call_core.specs.Steps.{cut_all, cut_row, cut_unless}
use Rattle.ledger_stamps.specs.Steps as stamps
use Rattle.ledger_stamps.specs.Steps.{committed_row, ended_row, index_at, stamped}
use Rattle.session_actions.specs.Attempts.{is_outstanding}
use Rattle.session_actions.specs.Links.{read_bytes}
use Rattle.session_actions.specs.Sessions.{link_seen}
use Rattle.session_actions.specs.Words.{numbered}
use Rattle.session_actions.specs.declared.attempt.Attempt.{Attempt}
use Rattle.session_actions.specs.declared.call.Call.{Call}
use Rattle.session_actions.specs.declared.link.Link.{Link}
use Rattle.session_actions.specs.declared.seen.Seen.{Seen}
use Rattle.call_actions.proofs.TakeActions.CutAttempts.{end_by_cut, final, half, is_cut_off, none_of, out_of, stamp_of}
use Rattle.call_actions.specs.TakeActions.Serves.{AttemptsStandInPlace}

-- what was read of a link
pub seen_by : (o : Option Link) → option_map_or (λ (l : LinkSeen). l.read) (option_map link_seen o) 0 ≡ option_map_or read_bytes o 0
seen_by None = refl
seen_by (Some l) = refl

pub read_by : (links : List Link) (i : ℕ) (b : Bool) → nat_lt i (length (map link_seen links)) ≡ b
    → read_in (map link_seen links) (if b then Some i else None) ≡ option_map_or read_bytes (slice_get links i) 0
read_by links i true e = ap (λ (o : Option LinkSeen). option_map_or (λ (l : LinkSeen). l.read) o 0) (slice_get-map link_seen links i) ∙ seen_by (slice_get links i)
read_by links i false e =
    let long : length (map link_seen links) ≡ length links = length-map links link_seen in
    let past : length (map link_seen links) ≤ i = ltb-false i (length (map link_seen links)) e in
    let beyond : length links ≤ i = omega (arith, long, past) in
    sym (ap (λ (o : Option Link). option_map_or read_bytes o 0) (slice_get_past links i beyond))

pub read_is : (links : List Link) (n : ℕ) → read_of (map link_seen links) n ≡ option_map_or read_bytes (numbered links n) 0
read_is links zero = refl
read_is links (suc i) = read_by links i (nat_lt i (length (map link_seen links))) refl

-- the row after a prefix is changed
pub changed_there : (g : Row → Row) (prefix : List Row) (r : Row) (rows : List Row) → stamps.changed g (prefix ++ (r ∷ rows)) (length prefix) ≡ prefix ++ (g r ∷ rows)
changed_there g [] r rows = refl
changed_there g (x ∷ prefix) r rows = ap (λ (l : List Row). x ∷ l) (changed_there g prefix r rows)

pub longer_than : (prefix : List Row) (r : Row) (rows : List Row) → length prefix < length (prefix ++ (r ∷ rows))
longer_than [] r rows = omega arith
longer_than (x ∷ prefix) r rows = let rest : length prefix < length (prefix ++ (r ∷ rows)) = longer_than prefix r rows in omega (arith, rest)

pub changed_prefix : (g : Row → Row) (prefix : List Row) (r : Row) (rows : List Row) (place : ℕ) → place ≡ suc (length prefix)
    → stamps.changed_at g (prefix ++ (r ∷ rows)) place ≡ prefix ++ (g r ∷ rows)
changed_prefix g prefix r rows place e =
    ap (λ (n : ℕ). stamps.changed_at g (prefix ++ (r ∷ rows)) n) e
    ∙ ap (λ (b : Bool). option_map_or (λ (i : ℕ). stamps.changed g (prefix ++ (r ∷ rows)) i) (if b then Some (length prefix) else None) (prefix ++ (r ∷ rows)))
    (lt-ltb (length prefix) (length (prefix ++ (r ∷ rows))) (longer_than prefix r rows))
    ∙ changed_there g prefix r rows

-- the commitment
module _ (entry : ℕ) (k : Attempt) where
  abbrev pub half_now : Attempt → Row
  half_now a = half (stamp_of entry k) a

  pub half_away : (a : Attempt) → (k.place ≡ a.place → ⊥) → half_now a ≡ a.row
  half_away a off = ap (λ (b : Bool). record a.row { committed = if b then Some entry else a.row.committed }) (ne_eqb k.place a.place off)

  pub half_past : (m : ℕ) (xs : List Attempt) → AttemptsStandInPlace m xs → k.place < m → map half_now xs ≡ map (λ (a : Attempt). a.row) xs
  half_past m [] p l = refl
  half_past m (x ∷ xs) p l =
      let at : x.place ≡ m = p.0 in
      let next : k.place < suc m = omega (arith, l) in
      let off : k.place ≡ x.place → ⊥ = λ same. omega (arith, same, at, l) in
      ap (λ (r : Row). r ∷ map half_now xs) (half_away x off) ∙ ap (λ (rows : List Row). x.row ∷ rows) (half_past (suc m) xs p.1 next)

  pub committed_from : (n i : ℕ) (xs : List Attempt) → k.row.committed ≡ None → AttemptsStandInPlace n xs → k.place ≡ n + i → slice_get xs i ≡ Some k
      → stamps.changed (committed_row entry) (map (λ (a : Attempt). a.row) xs) i ≡ map half_now xs
  committed_from n i [] free p e got = absurd (cc)
  committed_from n zero (x ∷ xs) free p e got =
      let one : x ≡ k = (cc) in
      let next : k.place < suc n = omega (arith, e) in
      let here : committed_row entry x.row ≡ half_now x
      = ap (λ (z : Attempt). committed_row entry z.row) one ∙ ap (λ (o : Option ℕ). record k.row { committed = stamped entry o }) free
      ∙ sym (ap (λ (b : Bool). record k.row { committed = if b then Some entry else k.row.committed }) (eq-eqb k.place k.place refl)) ∙ ap half_now (sym one) in
      ap (λ (r : Row). r ∷ map (λ (a : Attempt). a.row) xs) here ∙ ap (λ (rows : List Row). half_now x ∷ rows) (sym (half_past (suc n) xs p.1 next))
  committed_from n (suc i) (x ∷ xs) free p e got =
      let at : x.place ≡ n = p.0 in
      let next : k.place ≡ suc n + i = omega (arith, e) in
      let off : k.place ≡ x.place → ⊥ = λ same. omega (arith, same, at, e) in
      ap (λ (r : Row). r ∷ stamps.changed (committed_row entry) (map (λ (a : Attempt). a.row) xs) i) (sym (half_away x off))
      ∙ ap (λ (rows : List Row). half_now x ∷ rows) (committed_from (suc n) i xs free p.1 next got)

  pub within : (xs : List Attempt) (i : ℕ) → slice_get xs i ≡ Some k → i < length (map (λ (a : Attempt). a.row) xs)
  within xs i got =
      let long : length (map (λ (a : Attempt). a.row) xs) ≡ length xs = length-map xs (λ (a : Attempt). a.row) in
      let less : i < length xs = slice_get_within xs i k got in omega (arith, long, less)

  pub committed_by : (m : ℕ) (xs : List Attempt) → k.row.committed ≡ None → AttemptsStandInPlace 1 xs → k.place ≡ m → numbered xs m ≡ Some k
      → stamps.changed_at (committed_row entry) (map (λ (a : Attempt). a.row) xs) m ≡ map half_now xs
  committed_by zero xs free p e got = absurd (cc)
  committed_by (suc i) xs free p e got =
      let at : k.place ≡ 1 + i = omega (arith, e) in
      let rows : List Row = map (λ (a : Attempt). a.row) xs in
      ap (λ (b : Bool). option_map_or (λ (j : ℕ). stamps.changed (committed_row entry) rows j) (if b then Some i else None) rows)
      (lt-ltb i (length rows) (within xs i got)) ∙ committed_from 1 i xs free p at got

  pub rows_committed : (xs : List Attempt) → k.row.committed ≡ None → AttemptsStandInPlace 1 xs → numbered xs k.place ≡ Some k
      → stamps.changed_at (committed_row entry) (map (λ (a : Attempt). a.row) xs) k.place ≡ map half_now xs
  rows_committed xs free p got = committed_by k.place xs free p refl got

-- the cuts
module _ (entry moment : ℕ) (tokens : Option ℕ) (s : Seen) (c : Call) (stamp : Attempt → Option ℕ) (gone : Attempt → Bool) (kept : Option ℕ) where
  abbrev pub half_at : Attempt → Row
  half_at a = half stamp a

  abbrev pub whole : Attempt → Row
  whole a = (final entry moment tokens s c.number stamp gone a).row

  module _ (ledger : Ledger) (links : ledger.links ≡ map link_seen s.links) (entry_is : ledger.entry ≡ entry) where
    abbrev pub with_rows : List Row → Ledger
    with_rows rows = record ledger { rows = rows }

    abbrev pub Cuts : Attempt → Type 0
    Cuts a = is_cut_off c.number gone a ≡ (is_live s c a && (not (names a.place kept) && is_some a.row.placed))

    pub whole_is : (a : Attempt) (b : Bool) → is_cut_off c.number gone a ≡ b → record (half_at a) { ended = if b then Some (end_by_cut entry moment tokens s a) else a.row.ended } ≡ whole a
    whole_is a b e = ap (λ (z : Bool). record (half_at a) { ended = if z then Some (end_by_cut entry moment tokens s a) else a.row.ended }) (sym e)

    pub end_is : (a : Attempt) (at : Placed) → a.row.placed ≡ Some at → cut_end ledger.entry moment (read_of ledger.links at.link) tokens ≡ end_by_cut entry moment tokens s a
    end_is a at e =
        ap (λ (i : ℕ). cut_end i moment (read_of ledger.links at.link) tokens) entry_is
        ∙ ap (λ (n : ℕ). cut_end entry moment n tokens) (ap (λ (ls : List LinkSeen). read_of ls at.link) links ∙ read_is s.links at.link
        ∙ sym (ap (λ (o : Option Placed). option_map_or read_bytes (option_and_then (λ (z : Placed). numbered s.links z.link) o) 0) e))

    pub one_cut : (prefix : List Row) (a : Attempt) (rows : List Row) (t : Bool) (o : Option Placed) → names a.place kept ≡ t → a.row.placed ≡ o → is_live s c a ≡ true
        → Cuts a → a.place ≡ suc (length prefix)
        → cut_unless kept moment tokens (live_row a) (with_rows (prefix ++ (half_at a ∷ rows))) ≡ with_rows (prefix ++ (whole a ∷ rows))
    one_cut prefix a rows true o et eo live cuts at =
        let off : is_cut_off c.number gone a ≡ false
        = cuts ∙ ap (λ (b : Bool). b && (not (names a.place kept) && is_some a.row.placed)) live ∙ ap (λ (b : Bool). not b && is_some a.row.placed) et in
        ap (λ (b : Bool). if b then with_rows (prefix ++ (half_at a ∷ rows)) else cut_row moment tokens a.place (with_rows (prefix ++ (half_at a ∷ rows))) (option_map (λ (z : Placed). z.link) a.row.placed)) et
        ∙ ap (λ (r : Row). with_rows (prefix ++ (r ∷ rows))) (whole_is a false off)
    one_cut prefix a rows false None et eo live cuts at =
        let off : is_cut_off c.number gone a ≡ false
        = cuts ∙ ap (λ (b : Bool). b && (not (names a.place kept) && is_some a.row.placed)) live ∙ ap (λ (b : Bool). not b && is_some a.row.placed) et
        ∙ ap (λ (z : Option Placed). is_some z) eo in
        ap (λ (b : Bool). if b then with_rows (prefix ++ (half_at a ∷ rows)) else cut_row moment tokens a.place (with_rows (prefix ++ (half_at a ∷ rows))) (option_map (λ (z : Placed). z.link) a.row.placed)) et
        ∙ ap (λ (z : Option Placed). cut_row moment tokens a.place (with_rows (prefix ++ (half_at a ∷ rows))) (option_map (λ (z : Placed). z.link) z)) eo
        ∙ ap (λ (r : Row). with_rows (prefix ++ (r ∷ rows))) (whole_is a false off)
    one_cut prefix a rows false (Some p) et eo live cuts at =
        let on : is_cut_off c.number gone a ≡ true
        = cuts ∙ ap (λ (b : Bool). b && (not (names a.place kept) && is_some a.row.placed)) live ∙ ap (λ (b : Bool). not b && is_some a.row.placed) et
        ∙ ap (λ (z : Option Placed). is_some z) eo in
        let going : a.row.ended ≡ None = none_of a.row.placed a.row.ended (out_of (a.row.call == c.number) (is_outstanding a) (gone a) on) in
        ap (λ (b : Bool). if b then with_rows (prefix ++ (half_at a ∷ rows)) else cut_row moment tokens a.place (with_rows (prefix ++ (half_at a ∷ rows))) (option_map (λ (z : Placed). z.link) a.row.placed)) et
        ∙ ap (λ (z : Option Placed). cut_row moment tokens a.place (with_rows (prefix ++ (half_at a ∷ rows))) (option_map (λ (z : Placed). z.link) z)) eo
        ∙ ap with_rows (changed_prefix (ended_row (cut_end ledger.entry moment (read_of ledger.links p.link) tokens)) prefix (half_at a) rows a.place at)
        ∙ ap (λ (e : RowEnd). with_rows (prefix ++ (ended_row e (half_at a) ∷ rows))) (end_is a p eo)
        ∙ ap (λ (z : Option RowEnd). with_rows (prefix ++ (record (half_at a) { ended = stamped (end_by_cut entry moment tokens s a) z } ∷ rows))) going
        ∙ ap (λ (r : Row). with_rows (prefix ++ (r ∷ rows))) (whole_is a true on)

    pub shifted : (prefix : List Row) (r : Row) (rows : List Row) → with_rows (prefix ++ (r ∷ rows)) ≡ with_rows ((prefix ++ (r ∷ [])) ++ rows)
    shifted prefix r rows = ap with_rows (sym (append_assoc prefix (r ∷ []) rows))

    pub long_more : (prefix : List Row) (r : Row) → length (prefix ++ (r ∷ [])) ≡ suc (length prefix)
    long_more [] r = refl
    long_more (x ∷ prefix) r = ap suc (long_more prefix r)

    pub cut_by : (a : Attempt) (xs : List Attempt) (prefix : List Row) (b : Bool) → is_live s c a ≡ b → Cuts a → a.place ≡ suc (length prefix)
        → ((f : List Row) → length f ≡ suc (length prefix) → cut_all kept moment tokens (map live_row (filter (is_live s c) xs)) (with_rows (f ++ map half_at xs)) ≡ with_rows (f ++ map whole xs))
        → cut_all kept moment tokens (map live_row (cond b (a ∷ filter (is_live s c) xs) (filter (is_live s c) xs))) (with_rows (prefix ++ (half_at a ∷ map half_at xs)))
        ≡ with_rows (prefix ++ (whole a ∷ map whole xs))
    cut_by a xs prefix true live cuts at rest =
        ap (cut_all kept moment tokens (map live_row (filter (is_live s c) xs)))
        (one_cut prefix a (map half_at xs) (names a.place kept) a.row.placed refl refl live cuts at ∙ shifted prefix (whole a) (map half_at xs))
        ∙ rest (prefix ++ (whole a ∷ [])) (long_more prefix (whole a)) ∙ sym (shifted prefix (whole a) (map whole xs))
    cut_by a xs prefix false live cuts at rest =
        let off : is_cut_off c.number gone a ≡ false = cuts ∙ ap (λ (b : Bool). b && (not (names a.place kept) && is_some a.row.placed)) live in
        ap (cut_all kept moment tokens (map live_row (filter (is_live s c) xs)))
        (ap (λ (r : Row). with_rows (prefix ++ (r ∷ map half_at xs))) (whole_is a false off) ∙ shifted prefix (whole a) (map half_at xs))
        ∙ rest (prefix ++ (whole a ∷ [])) (long_more prefix (whole a)) ∙ sym (shifted prefix (whole a) (map whole xs))

    pub cuts_through : (xs : List Attempt) (prefix : List Row) (n : ℕ) → length prefix ≡ n → AttemptsStandInPlace (suc n) xs → AllByRecursion Cuts xs
        → cut_all kept moment tokens (map live_row (filter (is_live s c) xs)) (with_rows (prefix ++ map half_at xs)) ≡ with_rows (prefix ++ map whole xs)
    cuts_through [] prefix n long p all = refl
    cuts_through (a ∷ xs) prefix n long p all =
        cut_by a xs prefix (is_live s c a) refl all.0 (p.0 ∙ ap suc (sym long))
        (λ f e. cuts_through xs f (suc n) (e ∙ ap suc long) p.1 all.1)
