-- The live rows of a call stand in the ledger, whatever is done to the call.
use Rattle.std.proofs.Common.{◌≡◌, ◌<◌, ℕ, zero, suc, ◌+◌, Bool, true, false, not, ◌==◌, nat_lt, if◌then◌else◌, min, length, Option, Some, None, List, [], ◌∷◌, ◌++◌, map, refl, sym, ap, subst, ◌∙◌, arith, slice_get}
use Rattle.std.proofs.lemmas.Bool.{eqb-false, eqb-true, lt-ltb}
use Rattle.std.specs.Option.{option_map_or}
use Rattle.grpc_base.specs.Requests.{RequestSeen}
use Rattle.attempt_ledger.specs.declared.ledger.Ledger.{Ledger}
use Rattle.attempt_ledger.specs.declared.row.Placed.{Placed}
use Rattle.attempt_ledger.specs.declared.row.Row.{Row}
use Rattle.attempt_ledger.specs.declared.row.RowEnd.{RowEnd}
use Rattle.ledger_stamps.specs.Steps.{changed, changed_at, committed_row, ended_row, index_at, placed_row, stamped}
use Rattle.a6_numbers.specs.Throttling.{Bucket}
use Rattle.call_core.specs.declared.act.CallAct.{CallAct}
use Rattle.call_core.specs.declared.live.LiveRow.{LiveRow}
use Rattle.call_core.specs.Parts.{count_of, cut_end, find_live, is_row, kept_alone, linked, read_of, row_end, without}
use Rattle.call_core.specs.Rows.{LiveRowsStand, IsOff, IsOnLink, IsStanding, IsTied, row_in}
use Rattle.call_core.specs.Steps as step
use Rattle.call_core.specs.Steps.{Stepped, cut_all, cut_row, cut_unless, is_committed_live, judged_of, next_place}
use Rattle.call_core.proofs.Chains.{Chain}

-- reading a row after a write
read_changed_other : (f : Row → Row) (rows : List Row) (i j : ℕ) → (i ≡ j → ⊥) → slice_get (changed f rows i) j ≡ slice_get rows j
read_changed_other f [] i j off = refl
read_changed_other f (r ∷ rows) zero zero off = absurd (off refl)
read_changed_other f (r ∷ rows) zero (suc j) off = refl
read_changed_other f (r ∷ rows) (suc i) zero off = refl
read_changed_other f (r ∷ rows) (suc i) (suc j) off = read_changed_other f rows i j (λ e. off (ap suc e))

read_changed_same : (f : Row → Row) (rows : List Row) (i : ℕ) (r : Row) → slice_get rows i ≡ Some r → slice_get (changed f rows i) i ≡ Some (f r)
read_changed_same f [] i r e = absurd (cc)
read_changed_same f (x ∷ rows) zero r e = let same : x ≡ r = (cc) in ap (λ (y : Row). Some (f y)) same
read_changed_same f (x ∷ rows) (suc i) r e = read_changed_same f rows i r e

read_within : (rows : List Row) (i : ℕ) (r : Row) → slice_get rows i ≡ Some r → i < length rows
read_within [] i r e = absurd (cc)
read_within (x ∷ rows) zero r e = omega arith
read_within (x ∷ rows) (suc i) r e = let rest : i < length rows = read_within rows i r e in omega (arith, rest)

read_more : (rows : List Row) (x : Row) (i : ℕ) (r : Row) → slice_get rows i ≡ Some r → slice_get (rows ++ x ∷ []) i ≡ Some r
read_more [] x i r e = absurd (cc)
read_more (y ∷ rows) x zero r e = e
read_more (y ∷ rows) x (suc i) r e = read_more rows x i r e

read_last : (rows : List Row) (x : Row) → slice_get (rows ++ x ∷ []) (length rows) ≡ Some x
read_last [] x = refl
read_last (y ∷ rows) x = read_last rows x

-- the same at places
index_within : (index len : ℕ) → index < len → index_at (suc index) len ≡ Some index
index_within index len h = ap (λ (b : Bool). if b then Some index else None) (lt-ltb index len h)

row_changed_index : (f : Row → Row) (rows : List Row) (index : ℕ) (b : Bool) (q : ℕ) → (suc index ≡ suc q → ⊥) → slice_get (option_map_or (λ i. changed f rows i) (if b then Some index else None) rows) q ≡ slice_get rows q
row_changed_index f rows index true q off = read_changed_other f rows index q (λ e. off (ap suc e))
row_changed_index f rows index false q off = refl

pub row_changed_other : (f : Row → Row) (rows : List Row) (p q : ℕ) → (p ≡ q → ⊥) → row_in (changed_at f rows p) q ≡ row_in rows q
row_changed_other f rows p zero off = refl
row_changed_other f rows zero (suc q) off = refl
row_changed_other f rows (suc p) (suc q) off = row_changed_index f rows p (nat_lt p (length rows)) q off

pub row_changed_same : (f : Row → Row) (rows : List Row) (p : ℕ) (r : Row) → row_in rows p ≡ Some r → row_in (changed_at f rows p) p ≡ Some (f r)
row_changed_same f rows zero r e = absurd (cc)
row_changed_same f rows (suc p) r e =
    ap (λ (o : Option ℕ). slice_get (option_map_or (λ i. changed f rows i) o rows) p) (index_within p (length rows) (read_within rows p r e)) ∙ read_changed_same f rows p r e

pub row_more : (rows : List Row) (x : Row) (p : ℕ) (r : Row) → row_in rows p ≡ Some r → row_in (rows ++ x ∷ []) p ≡ Some r
row_more rows x zero r e = absurd (cc)
row_more rows x (suc p) r e = read_more rows x p r e

pub row_last : (rows : List Row) (x : Row) → row_in (rows ++ x ∷ []) (length rows + 1) ≡ Some x
row_last rows x = let up : suc (length rows) ≡ length rows + 1 = omega arith in subst (λ (k : ℕ). row_in (rows ++ x ∷ []) k ≡ Some x) up (read_last rows x)

-- a live row of which the ledger's row changes in what the law doesn't name
moved_standing : (c : ℕ) (rows after : List Row) (l : LiveRow) → row_in after l.place ≡ row_in rows l.place → IsStanding c rows l → IsStanding c after l
moved_standing c rows after l same old = record {
  row = old.row;
  there = same ∙ old.there;
  call = old.call;
  number = old.number;
  ended = old.ended;
  placed = old.placed;
}

-- lists of live rows
off_one : (place : ℕ) (l : LiveRow) (live : List LiveRow) (b : Bool) → is_row place l ≡ b → (if b then Some l else find_live place live) ≡ None → (find_live place live ≡ None → IsOff place live) → IsOff place (l ∷ live)
off_one place l live true e h rest = absurd (cc)
off_one place l live false e h rest = ((λ same. eqb-false l.place place e (sym same)), rest h)

pub off_found : (place : ℕ) (live : List LiveRow) → find_live place live ≡ None → IsOff place live
off_found place [] h = tt
off_found place (l ∷ live) h = off_one place l live (is_row place l) refl h (off_found place live)

pub all_changed : (c : ℕ) (f : Row → Row) (rows : List Row) (place : ℕ) (live : List LiveRow) → IsOff place live → LiveRowsStand c rows live → LiveRowsStand c (changed_at f rows place) live
all_changed c f rows place [] off old = tt
all_changed c f rows place (l ∷ live) off old =
    (moved_standing c rows (changed_at f rows place) l (row_changed_other f rows place l.place off.0) old.0, all_changed c f rows place live off.1 old.1)

pub all_more : (c : ℕ) (rows : List Row) (x : Row) (live : List LiveRow) → LiveRowsStand c rows live → LiveRowsStand c (rows ++ x ∷ []) live
all_more c rows x [] old = tt
all_more c rows x (l ∷ live) old =
    let one : IsStanding c rows l = old.0 in
    (record { row = one.row; there = row_more rows x l.place one.row one.there; call = one.call; number = one.number; ended = one.ended; placed = one.placed }, all_more c rows x live old.1)

pub all_after : (c : ℕ) (rows : List Row) (x : LiveRow) (live : List LiveRow) → LiveRowsStand c rows live → IsStanding c rows x → LiveRowsStand c rows (live ++ x ∷ [])
all_after c rows x [] old new = (new, tt)
all_after c rows x (l ∷ live) old new = (old.0, all_after c rows x live old.1 new)

without_one : (c : ℕ) (rows : List Row) (l : LiveRow) (live : List LiveRow) (b : Bool) → IsStanding c rows l → LiveRowsStand c rows live → LiveRowsStand c rows (if b then l ∷ live else live)
without_one c rows l live true one rest = (one, rest)
without_one c rows l live false one rest = rest

pub all_without : (c : ℕ) (rows : List Row) (place : ℕ) (live : List LiveRow) → LiveRowsStand c rows live → LiveRowsStand c rows (without place live)
all_without c rows place [] old = tt
all_without c rows place (l ∷ live) old = without_one c rows l (without place live) (not (is_row place l)) old.0 (all_without c rows place live old.1)

-- cuts leave the row that is kept
kept_unless : (moment : ℕ) (tokens : Option ℕ) (q : ℕ) (row : LiveRow) (l : Ledger) (link : Option ℕ) → (q ≡ row.place → ⊥) → row_in (cut_row moment tokens row.place l link).rows q ≡ row_in l.rows q
kept_unless moment tokens q row l None off = refl
kept_unless moment tokens q row l (Some link) off =
    row_changed_other (ended_row (cut_end l.entry moment (read_of l.links link) tokens)) l.rows row.place q (λ e. off (sym e))

kept_cut_one : (moment : ℕ) (tokens : Option ℕ) (q : ℕ) (row : LiveRow) (l : Ledger) (b : Bool) → (q == row.place) ≡ b → row_in (if b then l else cut_row moment tokens row.place l row.link).rows q ≡ row_in l.rows q
kept_cut_one moment tokens q row l true e = refl
kept_cut_one moment tokens q row l false e = kept_unless moment tokens q row l row.link (eqb-false q row.place e)

pub kept_cut : (moment : ℕ) (tokens : Option ℕ) (q : ℕ) (live : List LiveRow) (l : Ledger) → row_in (cut_all (Some q) moment tokens live l).rows q ≡ row_in l.rows q
kept_cut moment tokens q [] l = refl
kept_cut moment tokens q (row ∷ live) l =
    kept_cut moment tokens q live (cut_unless (Some q) moment tokens row l) ∙ kept_cut_one moment tokens q row l (q == row.place) refl

-- a commitment
commit_one : (c place moment : ℕ) (s : Stepped) (l : LiveRow) (b : Bool) (rest : List LiveRow) → (l.place == place) ≡ b → IsStanding c s.ledger.rows l → LiveRowsStand c (step.committed place moment s).ledger.rows rest → LiveRowsStand c (step.committed place moment s).ledger.rows (if b then l ∷ rest else rest)
commit_one c place moment s l false rest e one old = old
commit_one c place moment s l true rest e one old =
    let at : l.place ≡ place = eqb-true l.place place e in
    let stamped_rows : List Row = changed_at (committed_row s.ledger.entry) s.ledger.rows place in
    let there : row_in s.ledger.rows place ≡ Some one.row = subst (λ (k : ℕ). row_in s.ledger.rows k ≡ Some one.row) at one.there in
    let after : row_in (step.committed place moment s).ledger.rows place ≡ Some (committed_row s.ledger.entry one.row) =
    kept_cut moment (count_of s.tokens) place s.call.live (step.commit_stamped place s.ledger) ∙ row_changed_same (committed_row s.ledger.entry) s.ledger.rows place one.row there in (
      record {
        row = committed_row s.ledger.entry one.row;
        there = subst (λ (k : ℕ). row_in (step.committed place moment s).ledger.rows k ≡ Some (committed_row s.ledger.entry one.row)) (sym at) after;
        call = one.call;
        number = one.number;
        ended = one.ended;
        placed = one.placed;
      },
      old,
    )

commit_all : (c place moment : ℕ) (s : Stepped) (live : List LiveRow) → LiveRowsStand c s.ledger.rows live → LiveRowsStand c (step.committed place moment s).ledger.rows (kept_alone place live)
commit_all c place moment s [] old = tt
commit_all c place moment s (l ∷ live) old =
    commit_one c place moment s l (l.place == place) (kept_alone place live) refl old.0 (commit_all c place moment s live old.1)

-- a row more
added : (number : ℕ) (rows : List Row) (x : Row) (live : List LiveRow) (l : LiveRow) → l.place ≡ length rows + 1 → x.call ≡ number → x.number ≡ l.number → x.ended ≡ None → IsOnLink x.placed l.link → LiveRowsStand number rows live → LiveRowsStand number (rows ++ x ∷ []) (live ++ l ∷ [])
added number rows x live l at call same ended placed old =
    all_after number (rows ++ x ∷ []) l live (all_more number rows x live old)
    (record { row = x; there = subst (λ (k : ℕ). row_in (rows ++ x ∷ []) k ≡ Some x) (sym at) (row_last rows x); call = call; number = same; ended = ended; placed = placed })

-- a placing
link_stamped : (placed : Option Placed) (at : Placed) → IsOnLink placed None → stamped at placed ≡ Some at
link_stamped None at h = refl
link_stamped (Some p) at h = absurd h

place_one : (c : ℕ) (rows : List Row) (row l : LiveRow) (at : Placed) (b : Bool) → (l.place == row.place) ≡ b → row.link ≡ None → IsStanding c rows row → IsStanding c rows l → IsStanding c (changed_at (placed_row at) rows row.place) (if b then record l { link = Some at.link } else l)
place_one c rows row l at false e free found old =
    moved_standing c rows (changed_at (placed_row at) rows row.place) l (row_changed_other (placed_row at) rows row.place l.place (λ same. eqb-false l.place row.place e (sym same))) old
place_one c rows row l at true e free found old =
    let same : l.place ≡ row.place = eqb-true l.place row.place e in
    let both : Some old.row ≡ Some found.row = sym old.there ∙ subst (λ (k : ℕ). row_in rows k ≡ Some found.row) (sym same) found.there in
    let is : old.row ≡ found.row = (cc) in
    let none : IsOnLink old.row.placed None = subst (λ (r : Row). IsOnLink r.placed None) (sym is) (subst (λ (o : Option ℕ). IsOnLink found.row.placed o) free found.placed) in
    let after : row_in (changed_at (placed_row at) rows row.place) row.place ≡ Some (placed_row at old.row) =
    row_changed_same (placed_row at) rows row.place old.row (subst (λ (k : ℕ). row_in rows k ≡ Some old.row) same old.there) in
    record {
      row = placed_row at old.row;
      there = subst (λ (k : ℕ). row_in (changed_at (placed_row at) rows row.place) k ≡ Some (placed_row at old.row)) (sym same) after;
      call = old.call;
      number = old.number;
      ended = old.ended;
      placed = subst (λ (o : Option Placed). IsOnLink o (Some at.link)) (sym (link_stamped old.row.placed at none)) refl;
    }

place_all : (c : ℕ) (rows : List Row) (row : LiveRow) (at : Placed) (live : List LiveRow) → row.link ≡ None → IsStanding c rows row → LiveRowsStand c rows live → LiveRowsStand c (changed_at (placed_row at) rows row.place) (map (linked row.place at.link) live)
place_all c rows row at [] free found old = tt
place_all c rows row at (l ∷ live) free found old =
    (place_one c rows row l at (l.place == row.place) refl free found old.0, place_all c rows row at live free found old.1)

-- the row that was found stands
found_one : (c : ℕ) (rows : List Row) (place : ℕ) (l row : LiveRow) (live : List LiveRow) (b : Bool) → IsStanding c rows l → (find_live place live ≡ Some row → IsStanding c rows row) → (if b then Some l else find_live place live) ≡ Some row → IsStanding c rows row
found_one c rows place l row live true one rest e = let is : l ≡ row = (cc) in subst (λ (x : LiveRow). IsStanding c rows x) is one
found_one c rows place l row live false one rest e = rest e

pub found_stands : (c : ℕ) (rows : List Row) (place : ℕ) (live : List LiveRow) (row : LiveRow) → LiveRowsStand c rows live → find_live place live ≡ Some row → IsStanding c rows row
found_stands c rows place [] row old e = absurd (cc)
found_stands c rows place (l ∷ live) row old e = found_one c rows place l row live (is_row place l) old.0 (found_stands c rows place live row old.1) e

message_tied : (octets : List ℕ) (s : Stepped) (b : Bool) → IsTied s → IsTied (record s { call = (if b then record s.call { inbox = record s.call.inbox { messages = s.call.inbox.messages ++ octets ∷ [] } } else s.call) })
message_tied octets s true old = old
message_tied octets s false old = old

pub tied_chain : Chain (λ s t. IsTied s → IsTied t)
tied_chain = record {
  same = λ s old. old;
  joined = λ a b c first second old. second (first old);
  committed = λ place moment s old. commit_all s.call.number place moment s s.call.live old;
  ended = λ why moment s old. tt;
  followed = λ row reported moment s gone old.
      let end : RowEnd = row_end reported s.ledger.entry moment (count_of s.tokens) in
      let rows : List Row = changed_at (ended_row end) s.ledger.rows row.place in
      added s.call.number rows _ s.call.live (record { place = length rows + 1; number = row.number; link = None }) refl refl refl refl tt
      (all_changed s.call.number (ended_row end) s.ledger.rows row.place s.call.live (off_found row.place s.call.live gone) old);
  row_ended = λ place end s at gone old. all_changed s.call.number (ended_row end) s.ledger.rows place s.call.live (off_found place s.call.live gone) old;
  judged = λ row end word s at gone free old.
      let last : RowEnd = record end { word = (judged_of row end word s.call s.tokens).word } in
      all_changed s.call.number (ended_row last) s.ledger.rows row.place s.call.live (off_found row.place s.call.live gone) old;
  left = λ place s old. all_without s.call.number s.ledger.rows place s.call.live old;
  settled = λ reported s old. old;
  buffered = λ b s old. old;
  head = λ meta s old. old;
  message = λ row octets s old. message_tied octets s (is_committed_live row s.call) old;
  chosen = λ chosen moment s limit live fresh old. old;
  placed = λ place row at s e found free old. place_all s.call.number s.ledger.rows row at s.call.live free (found_stands s.call.number s.ledger.rows place s.call.live row old found) old;
  stopped = λ s old. old;
  made = λ due s h old.
      added s.call.number s.ledger.rows _ s.call.live (record { place = next_place s.ledger; number = min (s.call.attempts.sent + 1) 4294967295; link = None }) refl refl refl refl tt old;
  sent = λ message row s old. old;
}
