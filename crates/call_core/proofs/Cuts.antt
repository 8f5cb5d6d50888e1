-- A commitment and the end of a call cut every other outstanding row.
use Rattle.std.proofs.Common.{◌≡◌, ◌≤◌, ◌<◌, ℕ, zero, suc, ◌+◌, Bool, true, false, not, ◌==◌, if◌then◌else◌, min, length, Option, Some, None, List, [], ◌∷◌, ◌++◌, map, refl, sym, ap, subst, ◌∙◌, arith, slice_get}
use Rattle.std.proofs.lemmas.Bool.{eqb-false, eqb-true}
use Rattle.grpc_base.specs.Requests.{RequestSeen}
use Rattle.grpc_base.specs.declared.event.EndCause.{EndCause}
use Rattle.attempt_ledger.specs.declared.ledger.Ledger.{Ledger}
use Rattle.attempt_ledger.specs.declared.ledger.LinkSeen.{LinkSeen}
use Rattle.attempt_ledger.specs.declared.row.Placed.{Placed}
use Rattle.attempt_ledger.specs.declared.row.Row.{Row}
use Rattle.attempt_ledger.specs.declared.row.RowEnd.{RowEnd}
use Rattle.a6_numbers.specs.Throttling.{Bucket}
use Rattle.ledger_stamps.specs.Steps.{changed_at, committed_row, ended_row, stamped}
use Rattle.call_core.specs.declared.act.CallAct.{CallAct}
use Rattle.call_core.specs.declared.live.LiveRow.{LiveRow}
use Rattle.call_core.specs.Parts.{count_of, cut_end, is_row, kept_alone, linked, names, read_of, row_end, without}
use Rattle.call_core.specs.Rows.{LiveRowsAreApart, RowsAreCut, LiveRowsStand, HasEnd, IsApart, IsKeptIn, IsOff, IsOnLink, IsStanding, KeepsRows, row_in}
use Rattle.call_core.specs.Steps as step
use Rattle.call_core.specs.Steps.{Stepped, cut_all, cut_row, cut_unless, is_committed_live, next_place}
use Rattle.call_core.proofs.Chains.{Chain}
use Rattle.call_core.proofs.Standing.{all_changed, row_changed_other, row_changed_same, tied_chain}

-- an end that stands already stays
has_kept : (rows : List Row) (place q : ℕ) (end other : RowEnd) (b : Bool) → (place == q) ≡ b → HasEnd rows q end → HasEnd (changed_at (ended_row other) rows place) q end
has_kept rows place q end other true e has =
    let same : place ≡ q = eqb-true place q e in
    record {
      row = ended_row other has.row;
      there = subst (λ (k : ℕ). row_in (changed_at (ended_row other) rows k) q ≡ Some (ended_row other has.row)) (sym same) (row_changed_same (ended_row other) rows q has.row has.there);
      ended = ap (λ (o : Option RowEnd). stamped other o) has.ended;
    }
has_kept rows place q end other false e has = record {
  row = has.row;
  there = row_changed_other (ended_row other) rows place q (eqb-false place q e) ∙ has.there;
  ended = has.ended;
}

has_cut : (moment : ℕ) (tokens : Option ℕ) (place q : ℕ) (end : RowEnd) (l : Ledger) (link : Option ℕ) → HasEnd l.rows q end → HasEnd (cut_row moment tokens place l link).rows q end
has_cut moment tokens place q end l None has = has
has_cut moment tokens place q end l (Some link) has =
    has_kept l.rows place q end (cut_end l.entry moment (read_of l.links link) tokens) (place == q) refl has

has_unless : (kept : Bool) (moment : ℕ) (tokens : Option ℕ) (row : LiveRow) (q : ℕ) (end : RowEnd) (l : Ledger) → HasEnd l.rows q end → HasEnd (if kept then l else cut_row moment tokens row.place l row.link).rows q end
has_unless true moment tokens row q end l has = has
has_unless false moment tokens row q end l has = has_cut moment tokens row.place q end l row.link has

has_cuts : (kept : Option ℕ) (moment : ℕ) (tokens : Option ℕ) (live : List LiveRow) (q : ℕ) (end : RowEnd) (l : Ledger) → HasEnd l.rows q end → HasEnd (cut_all kept moment tokens live l).rows q end
has_cuts kept moment tokens [] q end l has = has
has_cuts kept moment tokens (row ∷ live) q end l has =
    has_cuts kept moment tokens live q end (cut_unless kept moment tokens row l) (has_unless (names row.place kept) moment tokens row q end l has)

-- the cut of one row
cut_one : (owner moment : ℕ) (tokens : Option ℕ) (row : LiveRow) (l : Ledger) (kept : Bool) (o : Option ℕ) (link : ℕ) → IsStanding owner l.rows row → kept ≡ false → o ≡ Some link → HasEnd (if kept then l else cut_row moment tokens row.place l o).rows row.place (cut_end l.entry moment (read_of l.links link) tokens)
cut_one owner moment tokens row l true o link one k e = absurd (cc)
cut_one owner moment tokens row l false None link one k e = absurd (cc)
cut_one owner moment tokens row l false (Some x) link one k e =
    let same : x ≡ link = (cc) in
    let end : ℕ → RowEnd = λ (y : ℕ). cut_end l.entry moment (read_of l.links y) tokens in
    subst (λ (y : ℕ). HasEnd (changed_at (ended_row (end x)) l.rows row.place) row.place (end y)) same
    (record {
      row = ended_row (end x) one.row;
      there = row_changed_same (ended_row (end x)) l.rows row.place one.row one.there;
      ended = ap (λ (p : Option RowEnd). stamped (end x) p) one.ended;
    })

-- what a cut leaves of a ledger
same_entry : (kept : Bool) (moment : ℕ) (tokens : Option ℕ) (place : ℕ) (l : Ledger) (link : Option ℕ) → (if kept then l else cut_row moment tokens place l link).entry ≡ l.entry
same_entry true moment tokens place l link = refl
same_entry false moment tokens place l None = refl
same_entry false moment tokens place l (Some link) = refl

same_links : (kept : Bool) (moment : ℕ) (tokens : Option ℕ) (place : ℕ) (l : Ledger) (link : Option ℕ) → (if kept then l else cut_row moment tokens place l link).links ≡ l.links
same_links true moment tokens place l link = refl
same_links false moment tokens place l None = refl
same_links false moment tokens place l (Some link) = refl

stand_cut : (owner moment : ℕ) (tokens : Option ℕ) (place : ℕ) (l : Ledger) (link : Option ℕ) (live : List LiveRow) → IsOff place live → LiveRowsStand owner l.rows live → LiveRowsStand owner (cut_row moment tokens place l link).rows live
stand_cut owner moment tokens place l None live off old = old
stand_cut owner moment tokens place l (Some link) live off old =
    all_changed owner (ended_row (cut_end l.entry moment (read_of l.links link) tokens)) l.rows place live off old

stand_unless : (kept : Bool) (owner moment : ℕ) (tokens : Option ℕ) (place : ℕ) (l : Ledger) (link : Option ℕ) (live : List LiveRow) → IsOff place live → LiveRowsStand owner l.rows live → LiveRowsStand owner (if kept then l else cut_row moment tokens place l link).rows live
stand_unless true owner moment tokens place l link live off old = old
stand_unless false owner moment tokens place l link live off old = stand_cut owner moment tokens place l link live off old

are_cut : (owner : ℕ) (kept : Option ℕ) (moment : ℕ) (tokens : Option ℕ) (live : List LiveRow) (l : Ledger) → LiveRowsAreApart live → LiveRowsStand owner l.rows live → RowsAreCut kept l.entry moment tokens l.links (cut_all kept moment tokens live l).rows live
are_cut owner kept moment tokens [] l apart old = tt
are_cut owner kept moment tokens (row ∷ live) l apart old =
    let m : Ledger = cut_unless kept moment tokens row l in
    let entry : m.entry ≡ l.entry = same_entry (names row.place kept) moment tokens row.place l row.link in
    let links : m.links ≡ l.links = same_links (names row.place kept) moment tokens row.place l row.link in
    let rest : RowsAreCut kept m.entry moment tokens m.links (cut_all kept moment tokens live m).rows live =
    are_cut owner kept moment tokens live m apart.1 (stand_unless (names row.place kept) owner moment tokens row.place l row.link live apart.0 old.1) in (
      (λ k link e. has_cuts kept moment tokens live row.place (cut_end l.entry moment (read_of l.links link) tokens) m (cut_one owner moment tokens row l (names row.place kept) row.link link old.0 k e)),
      subst (λ (n : ℕ). RowsAreCut kept n moment tokens l.links (cut_all kept moment tokens live m).rows live) entry
          (subst (λ (ls : List LinkSeen). RowsAreCut kept m.entry moment tokens ls (cut_all kept moment tokens live m).rows live) links rest),
    )

-- a commitment stamps a row and leaves what stands
stand_commit_one : (owner entry place : ℕ) (rows : List Row) (l : LiveRow) (b : Bool) → (place == l.place) ≡ b → IsStanding owner rows l → IsStanding owner (changed_at (committed_row entry) rows place) l
stand_commit_one owner entry place rows l true e one =
    let same : place ≡ l.place = eqb-true place l.place e in
    record {
      row = committed_row entry one.row;
      there = subst (λ (k : ℕ). row_in (changed_at (committed_row entry) rows k) l.place ≡ Some (committed_row entry one.row)) (sym same) (row_changed_same (committed_row entry) rows l.place one.row one.there);
      call = one.call;
      number = one.number;
      ended = one.ended;
      placed = one.placed;
    }
stand_commit_one owner entry place rows l false e one = record {
  row = one.row;
  there = row_changed_other (committed_row entry) rows place l.place (eqb-false place l.place e) ∙ one.there;
  call = one.call;
  number = one.number;
  ended = one.ended;
  placed = one.placed;
}

stand_commit : (owner entry place : ℕ) (rows : List Row) (live : List LiveRow) → LiveRowsStand owner rows live → LiveRowsStand owner (changed_at (committed_row entry) rows place) live
stand_commit owner entry place rows [] old = tt
stand_commit owner entry place rows (l ∷ live) old =
    (stand_commit_one owner entry place rows l (place == l.place) refl old.0, stand_commit owner entry place rows live old.1)

pub cut_by_commit : (place moment : ℕ) (s : Stepped) → IsApart s → RowsAreCut (Some place) s.ledger.entry moment (count_of s.tokens) s.ledger.links (step.committed place moment s).ledger.rows s.call.live
cut_by_commit place moment s law =
    are_cut s.call.number (Some place) moment (count_of s.tokens) s.call.live (step.commit_stamped place s.ledger) law.apart
    (stand_commit s.call.number s.ledger.entry place s.ledger.rows s.call.live law.tied)

pub cut_by_end : (why : EndCause) (moment : ℕ) (s : Stepped) → IsApart s → RowsAreCut None s.ledger.entry moment (count_of s.tokens) s.ledger.links (step.ended_as why moment s).ledger.rows s.call.live
cut_by_end why moment s law = are_cut s.call.number None moment (count_of s.tokens) s.call.live s.ledger law.apart law.tied

-- places stay apart
off_filtered : (q : ℕ) (l : LiveRow) (live : List LiveRow) (b : Bool) → (q ≡ l.place → ⊥) → IsOff q live → IsOff q (if b then l ∷ live else live)
off_filtered q l live true off rest = (off, rest)
off_filtered q l live false off rest = rest

off_without : (q place : ℕ) (live : List LiveRow) → IsOff q live → IsOff q (without place live)
off_without q place [] off = tt
off_without q place (l ∷ live) off = off_filtered q l (without place live) (not (is_row place l)) off.0 (off_without q place live off.1)

off_alone : (q place : ℕ) (live : List LiveRow) → IsOff q live → IsOff q (kept_alone place live)
off_alone q place [] off = tt
off_alone q place (l ∷ live) off = off_filtered q l (kept_alone place live) (is_row place l) off.0 (off_alone q place live off.1)

apart_filtered : (l : LiveRow) (live : List LiveRow) (b : Bool) → IsOff l.place live → LiveRowsAreApart live → LiveRowsAreApart (if b then l ∷ live else live)
apart_filtered l live true off rest = (off, rest)
apart_filtered l live false off rest = rest

apart_without : (place : ℕ) (live : List LiveRow) → LiveRowsAreApart live → LiveRowsAreApart (without place live)
apart_without place [] apart = tt
apart_without place (l ∷ live) apart =
    apart_filtered l (without place live) (not (is_row place l)) (off_without l.place place live apart.0) (apart_without place live apart.1)

apart_alone : (place : ℕ) (live : List LiveRow) → LiveRowsAreApart live → LiveRowsAreApart (kept_alone place live)
apart_alone place [] apart = tt
apart_alone place (l ∷ live) apart =
    apart_filtered l (kept_alone place live) (is_row place l) (off_alone l.place place live apart.0) (apart_alone place live apart.1)

linked_place : (place link : ℕ) (l : LiveRow) (b : Bool) → (if b then record l { link = Some link } else l).place ≡ l.place
linked_place place link l true = refl
linked_place place link l false = refl

off_linked : (q place link : ℕ) (live : List LiveRow) → IsOff q live → IsOff q (map (linked place link) live)
off_linked q place link [] off = tt
off_linked q place link (l ∷ live) off =
    ((λ e. off.0 (e ∙ linked_place place link l (is_row place l))), off_linked q place link live off.1)

apart_linked : (place link : ℕ) (live : List LiveRow) → LiveRowsAreApart live → LiveRowsAreApart (map (linked place link) live)
apart_linked place link [] apart = tt
apart_linked place link (l ∷ live) apart =
    (subst (λ (k : ℕ). IsOff k (map (linked place link) live)) (sym (linked_place place link l (is_row place l))) (off_linked l.place place link live apart.0), apart_linked place link live apart.1)

-- a new row stands after all others
read_below : (rows : List Row) (i : ℕ) (r : Row) → slice_get rows i ≡ Some r → i < length rows
read_below [] i r e = absurd (cc)
read_below (x ∷ rows) zero r e = omega arith
read_below (x ∷ rows) (suc i) r e = let rest : i < length rows = read_below rows i r e in omega (arith, rest)

pub row_below : (rows : List Row) (p : ℕ) (r : Row) → row_in rows p ≡ Some r → p ≤ length rows
row_below rows zero r e = absurd (cc)
row_below rows (suc p) r e = let less : p < length rows = read_below rows p r e in omega (arith, less)

off_more : (q : ℕ) (new : LiveRow) (live : List LiveRow) → (q ≡ new.place → ⊥) → IsOff q live → IsOff q (live ++ new ∷ [])
off_more q new [] other off = (other, tt)
off_more q new (l ∷ live) other off = (off.0, off_more q new live other off.1)

apart_more : (owner : ℕ) (rows : List Row) (new : LiveRow) (live : List LiveRow) → new.place ≡ length rows + 1 → LiveRowsStand owner rows live → LiveRowsAreApart live → LiveRowsAreApart (live ++ new ∷ [])
apart_more owner rows new [] at old apart = (tt, tt)
apart_more owner rows new (l ∷ live) at old apart =
    let below : l.place ≤ length rows = row_below rows l.place old.0.row old.0.there in
    (off_more l.place new live (λ e. let no : ⊥ = omega (arith, below, at, e) in no) apart.0, apart_more owner rows new live at old.1 apart.1)

message_apart : (octets : List ℕ) (s : Stepped) (b : Bool) → IsApart s → IsApart (record s { call = (if b then record s.call { inbox = record s.call.inbox { messages = s.call.inbox.messages ++ octets ∷ [] } } else s.call) })
message_apart octets s true law = record { tied = law.tied; apart = law.apart }
message_apart octets s false law = law

pub apart_chain : Chain (λ s t. IsApart s → IsApart t)
apart_chain = record {
  same = λ s law. law;
  joined = λ a b c first second law. second (first law);
  committed = λ place moment s law. record { tied = tied_chain.committed place moment s law.tied; apart = apart_alone place s.call.live law.apart };
  ended = λ why moment s law. record { tied = tt; apart = tt };
  followed = λ row reported moment s gone law. record {
    tied = tied_chain.followed row reported moment s gone law.tied;
    apart = apart_more s.call.number (step.row_ended row.place (row_end reported s.ledger.entry moment (count_of s.tokens)) s).ledger.rows _ s.call.live refl (tied_chain.row_ended row.place (row_end reported s.ledger.entry moment (count_of s.tokens)) s refl gone law.tied) law.apart;
  };
  row_ended = λ place end s at gone law. record { tied = tied_chain.row_ended place end s at gone law.tied; apart = law.apart };
  judged = λ row end word s at gone free law. record { tied = tied_chain.judged row end word s at gone free law.tied; apart = law.apart };
  left = λ place s law. record { tied = tied_chain.left place s law.tied; apart = apart_without place s.call.live law.apart };
  settled = λ reported s law. record { tied = law.tied; apart = law.apart };
  buffered = λ b s law. record { tied = law.tied; apart = law.apart };
  head = λ meta s law. record { tied = law.tied; apart = law.apart };
  message = λ row octets s law. message_apart octets s (is_committed_live row s.call) law;
  chosen = λ chosen moment s limit live fresh law. record { tied = law.tied; apart = law.apart };
  placed = λ place row at s e found free law. record { tied = tied_chain.placed place row at s e found free law.tied; apart = apart_linked row.place at.link s.call.live law.apart };
  stopped = λ s law. record { tied = law.tied; apart = law.apart };
  made = λ due s h law. record {
    tied = tied_chain.made due s h law.tied;
    apart = apart_more s.call.number s.ledger.rows (record { place = next_place s.ledger; number = min (s.call.attempts.sent + 1) 4294967295; link = None }) s.call.live refl law.tied law.apart;
  };
  sent = λ message row s law. record { tied = law.tied; apart = law.apart };
}

pub apart_new : (number : ℕ) (request : RequestSeen) (begun : ℕ) (ledger : Ledger) (tokens : Option Bucket) (acts : List CallAct) → IsApart (step.lent (step.new_call number request begun) ledger tokens acts)
apart_new number request begun ledger tokens acts = record { tied = tt; apart = tt }

-- what is done to other calls
elsewhere_all : (owner : ℕ) (rows after : List Row) (live : List LiveRow) → KeepsRows owner rows after → LiveRowsStand owner rows live → LiveRowsStand owner after live
elsewhere_all owner rows after [] keeps old = tt
elsewhere_all owner rows after (l ∷ live) keeps old =
    let one : IsStanding owner rows l = old.0 in
    let kept : IsKeptIn after l.place one.row = keeps l.place one.row one.there one.call in (
      record {
        row = kept.row;
        there = kept.there;
        call = kept.call ∙ one.call;
        number = kept.number ∙ one.number;
        ended = kept.ended ∙ one.ended;
        placed = subst (λ (o : Option Placed). IsOnLink o l.link) (sym kept.placed) one.placed;
      },
      elsewhere_all owner rows after live keeps old.1,
    )

pub apart_elsewhere : (s : Stepped) (ledger : Ledger) → KeepsRows s.call.number s.ledger.rows ledger.rows → IsApart s → IsApart (record s { ledger = ledger })
apart_elsewhere s ledger keeps law = record {
  tied = elsewhere_all s.call.number s.ledger.rows ledger.rows s.call.live keeps law.tied;
  apart = law.apart;
}
