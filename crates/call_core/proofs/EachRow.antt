-- What holds of each row of a call, through the writes to the ledger's rows.
use Rattle.std.proofs.Common.{◌≡◌, ℕ, ◌+◌, Bool, true, false, ◌==◌, if◌then◌else◌, length, Option, Some, None, List, [], ◌∷◌, ◌++◌, refl, sym, ap, subst, ◌∙◌, ◌⊎◌, inl, inr}
use Rattle.std.proofs.lemmas.Bool.{eqb-false, eqb-true}
use Rattle.attempt_ledger.specs.Numbering.{is_transparent}
use Rattle.attempt_ledger.specs.declared.ledger.Ledger.{Ledger}
use Rattle.attempt_ledger.specs.declared.row.Row.{Row}
use Rattle.attempt_ledger.specs.declared.row.RowEnd.{RowEnd}
use Rattle.attempt_ledger.specs.declared.row.RowKind.{RowKind}
use Rattle.ledger_stamps.specs.Steps.{changed_at, ended_row, stamped}
use Rattle.call_core.specs.declared.live.LiveRow.{LiveRow}
use Rattle.call_core.specs.Commitments.{IsRowOf}
use Rattle.call_core.specs.Parts.{cut_end, names, read_of}
use Rattle.call_core.specs.RowLaws.{EndsKeep, IsCountedAt, IsFollowedAt}
use Rattle.call_core.specs.Rows.{row_in}
use Rattle.call_core.specs.Steps.{cut_all, cut_row, cut_unless}
use Rattle.call_core.proofs.Alike.{IsWrite, WasRow, all_changed_at, like_from, row_split}
use Rattle.call_core.proofs.KeptReasons.{AreKept}
use Rattle.call_core.proofs.Standing.{row_changed_other, row_changed_same}

abbrev pub EachRow : (ℕ → Row → Type 0) → ℕ → List Row → Type 0
EachRow P owner rows = (place : ℕ) (row : Row) → IsRowOf owner rows place row → P place row

-- a write to one row
pub record IsOwnRow (old new : Row) : Type 0 where
  pub call : new.call ≡ old.call

own_write : IsWrite IsOwnRow
own_write = record {
  same = λ r. record { call = refl };
  joined = λ a b c first second. record { call = second.call ∙ first.call };
  ended = λ end r. record { call = refl };
}

changed_one : (P : ℕ → Row → Type 0) (owner p q : ℕ) (f : Row → Row) (rows : List Row) (new : Row) (b : Bool) → (p == q) ≡ b → ((r : Row) → IsOwnRow r (f r)) → ((r : Row) → IsRowOf owner rows p r → P p r → P p (f r)) → EachRow P owner rows → IsRowOf owner (changed_at f rows p) q new → P q new
changed_one P owner p q f rows new true t own one old is =
    let same : p ≡ q = eqb-true p q t in
    let was : WasRow IsOwnRow (row_in rows q) new = like_from IsOwnRow (row_in rows q) (row_in (changed_at f rows p) q) new (all_changed_at IsOwnRow own_write f own rows p q) is.there in
    let there : row_in rows p ≡ Some was.row = ap (λ (k : ℕ). row_in rows k) same ∙ was.there in
    let both : Some (f was.row) ≡ Some new = sym (row_changed_same f rows p was.row there) ∙ ap (λ (k : ℕ). row_in (changed_at f rows p) k) same ∙ is.there in
    let equal : f was.row ≡ new = (cc) in
    let here : IsRowOf owner rows p was.row = record { there = there; call = sym was.like.call ∙ is.call } in
    subst (λ (k : ℕ). P k new) same (subst (λ (r : Row). P p r) equal (one was.row here (old p was.row here)))
changed_one P owner p q f rows new false t own one old is =
    old q new (record { there = sym (row_changed_other f rows p q (eqb-false p q t)) ∙ is.there; call = is.call })

pub each_changed : (P : ℕ → Row → Type 0) (owner p : ℕ) (f : Row → Row) (rows : List Row) → ((r : Row) → IsOwnRow r (f r)) → ((r : Row) → IsRowOf owner rows p r → P p r → P p (f r)) → EachRow P owner rows → EachRow P owner (changed_at f rows p)
each_changed P owner p f rows own one old = λ q new is. changed_one P owner p q f rows new (p == q) refl own one old is

-- a row more
more_one : (P : ℕ → Row → Type 0) (owner q : ℕ) (rows : List Row) (x row : Row) → P (length rows + 1) x → EachRow P owner rows → row.call ≡ owner → (row_in rows q ≡ Some row) ⊎ ((q ≡ length rows + 1) × (row ≡ x)) → P q row
more_one P owner q rows x row new old call (inl there) = old q row (record { there = there; call = call })
more_one P owner q rows x row new old call (inr both) =
    subst (λ (k : ℕ). P k row) (sym both.0) (subst (λ (r : Row). P (length rows + 1) r) (sym both.1) new)

pub each_more : (P : ℕ → Row → Type 0) (owner : ℕ) (rows : List Row) (x : Row) → P (length rows + 1) x → EachRow P owner rows → EachRow P owner (rows ++ x ∷ [])
each_more P owner rows x new old = λ q row is. more_one P owner q rows x row new old is.call (row_split rows x q row is.there)

-- cuts
abbrev pub TakesCuts : (ℕ → Row → Type 0) → ℕ → Option ℕ → Type 0
TakesCuts P moment tokens = (entry seen place : ℕ) (row : Row) → P place row → P place (ended_row (cut_end entry moment seen tokens) row)

cut_one : (P : ℕ → Row → Type 0) (owner : ℕ) (kept : Bool) (moment : ℕ) (tokens : Option ℕ) (place : ℕ) (l : Ledger) (link : Option ℕ) → TakesCuts P moment tokens → EachRow P owner l.rows → EachRow P owner (if kept then l else cut_row moment tokens place l link).rows
cut_one P owner true moment tokens place l link takes old = old
cut_one P owner false moment tokens place l None takes old = old
cut_one P owner false moment tokens place l (Some link) takes old =
    each_changed P owner place (ended_row (cut_end l.entry moment (read_of l.links link) tokens)) l.rows (λ r. record { call = refl })
    (λ r is h. takes l.entry (read_of l.links link) place r h) old

pub each_cut : (P : ℕ → Row → Type 0) (owner : ℕ) (kept : Option ℕ) (moment : ℕ) (tokens : Option ℕ) (live : List LiveRow) (l : Ledger) → TakesCuts P moment tokens → EachRow P owner l.rows → EachRow P owner (cut_all kept moment tokens live l).rows
each_cut P owner kept moment tokens [] l takes old = old
each_cut P owner kept moment tokens (row ∷ live) l takes old =
    each_cut P owner kept moment tokens live (cut_unless kept moment tokens row l) takes
    (cut_one P owner (names row.place kept) moment tokens row.place l row.link takes old)

-- what is said of ends
end_split : (end other : RowEnd) (o : Option RowEnd) → stamped end o ≡ Some other → (o ≡ Some other) ⊎ ((o ≡ None) × (end ≡ other))
end_split end other None e = inr (refl, (cc))
end_split end other (Some x) e = inl e

end_takes : (Q : ℕ → ℕ → RowEnd → Type 0) (place : ℕ) (end other : RowEnd) (row : Row) → (row.ended ≡ None → Q place row.number end) → (row.ended ≡ Some other → Q place row.number other) → (row.ended ≡ Some other) ⊎ ((row.ended ≡ None) × (end ≡ other)) → Q place row.number other
end_takes Q place end other row new old (inl e) = old e
end_takes Q place end other row new old (inr both) = subst (λ (x : RowEnd). Q place row.number x) both.1 (new both.0)

abbrev pub EndOf : (ℕ → ℕ → RowEnd → Type 0) → ℕ → Row → Type 0
EndOf Q place row = (end : RowEnd) → row.ended ≡ Some end → Q place row.number end

pub with_end : (Q : ℕ → ℕ → RowEnd → Type 0) (place : ℕ) (end : RowEnd) (row : Row) → (row.ended ≡ None → Q place row.number end) → EndOf Q place row → EndOf Q place (ended_row end row)
with_end Q place end row new old = λ other e. end_takes Q place end other row new (old other) (end_split end other row.ended e)

-- what follows a row follows it in later rows
pub followed_to : (owner : ℕ) (rows after : List Row) (place number : ℕ) → AreKept owner rows after → IsFollowedAt owner rows place number → IsFollowedAt owner after place number
followed_to owner rows after place number kept old = record {
  later = old.later;
  order = old.order;
  next = (kept old.later old.next old.is).row;
  is = (kept old.later old.next old.is).is;
  kind = ap (λ (k : RowKind). is_transparent k) (kept old.later old.next old.is).kept.kind ∙ old.kind;
  same = (kept old.later old.next old.is).kept.number ∙ old.same;
}

pub counted_back : (owner : ℕ) (rows after : List Row) (place number : ℕ) (end : RowEnd) → AreKept owner rows after → IsCountedAt owner after place number end → IsCountedAt owner rows place number end
counted_back owner rows after place number end kept counted = record {
  cause = counted.cause;
  unfollowed = λ old. counted.unfollowed (followed_to owner rows after place number kept old);
}

pub kept_joined : (owner : ℕ) (a b c : List Row) → AreKept owner a b → AreKept owner b c → AreKept owner a c
kept_joined owner a b c first second = λ place row is. record {
  row = (second place (first place row is).row (first place row is).is).row;
  is = (second place (first place row is).row (first place row is).is).is;
  kept = record {
    call = (second place (first place row is).row (first place row is).is).kept.call ∙ (first place row is).kept.call;
    number = (second place (first place row is).row (first place row is).is).kept.number ∙ (first place row is).kept.number;
    kind = (second place (first place row is).row (first place row is).is).kept.kind ∙ (first place row is).kept.kind;
    due = (second place (first place row is).row (first place row is).is).kept.due ∙ (first place row is).kept.due;
    placed = λ at e. (second place (first place row is).row (first place row is).is).kept.placed at ((first place row is).kept.placed at e);
    ended = λ end e. (second place (first place row is).row (first place row is).is).kept.ended end ((first place row is).kept.ended end e);
  };
}

pub ends_final : (Q : List Row → ℕ → ℕ → RowEnd → Type 0) (owner : ℕ) (final later rows : List Row) → ((place number : ℕ) (end : RowEnd) → Q final place number end → Q later place number end) → EndsKeep Q owner final rows → EndsKeep Q owner later rows
ends_final Q owner final later rows to old = λ place row is end e. to place row.number end (old place row is end e)
