-- A row that ended has the end that was reported, in the entry in which it was reported.
use Rattle.std.proofs.Common.{◌≡◌, ℕ, Bool, true, false, if◌then◌else◌, Option, Some, None, is_some, List, [], ◌∷◌, refl, sym, ap, subst, ◌∙◌}
use Rattle.grpc_base.specs.declared.event.EndCause.{EndCause}
use Rattle.grpc_base.specs.declared.event.EndCause.TheVariants as ends
use Rattle.attempt_ledger.specs.declared.ledger.Ledger.{Ledger}
use Rattle.attempt_ledger.specs.declared.news.EndNews.{EndNews}
use Rattle.attempt_ledger.specs.declared.row.Row.{Row}
use Rattle.attempt_ledger.specs.declared.row.RowEnd.{RowEnd}
use Rattle.ledger_stamps.specs.Steps.{changed_at, committed_row, ended_row, stamped}
use Rattle.call_core.specs.declared.judge.Judged.{Judged}
use Rattle.call_core.specs.declared.live.LiveRow.{LiveRow}
use Rattle.call_core.specs.Parts.{count_of, cut_end, find_live, is_followed, is_row, kept_alone, names, read_of, row_end}
use Rattle.call_core.specs.Rows.{HasEnd, HasReportedEnd, IsOff, IsStanding, IsTied, row_in}
use Rattle.call_core.specs.Steps as step
use Rattle.call_core.specs.Steps.{Stepped, cut_all, cut_row, cut_unless, judged_of, left_live, settled, with_judged}
use Rattle.call_core.proofs.Chains.{left_none}
use Rattle.call_core.proofs.Standing.{found_stands, kept_cut, off_found, row_changed_other, row_changed_same, row_more}

-- cuts of other rows leave a row as it is
off_cut : (moment : ℕ) (tokens : Option ℕ) (q place : ℕ) (l : Ledger) (link : Option ℕ) → (q ≡ place → ⊥) → row_in (cut_row moment tokens place l link).rows q ≡ row_in l.rows q
off_cut moment tokens q place l None off = refl
off_cut moment tokens q place l (Some link) off =
    row_changed_other (ended_row (cut_end l.entry moment (read_of l.links link) tokens)) l.rows place q (λ e. off (sym e))

off_unless : (kept : Bool) (moment : ℕ) (tokens : Option ℕ) (q : ℕ) (row : LiveRow) (l : Ledger) → (q ≡ row.place → ⊥) → row_in (if kept then l else cut_row moment tokens row.place l row.link).rows q ≡ row_in l.rows q
off_unless true moment tokens q row l off = refl
off_unless false moment tokens q row l off = off_cut moment tokens q row.place l row.link off

off_cuts : (kept : Option ℕ) (moment : ℕ) (tokens : Option ℕ) (q : ℕ) (live : List LiveRow) (l : Ledger) → IsOff q live → row_in (cut_all kept moment tokens live l).rows q ≡ row_in l.rows q
off_cuts kept moment tokens q [] l off = refl
off_cuts kept moment tokens q (row ∷ live) l off =
    off_cuts kept moment tokens q live (cut_unless kept moment tokens row l) off.1 ∙ off_unless (names row.place kept) moment tokens q row l off.0

off_one_kept : (q : ℕ) (l : LiveRow) (live : List LiveRow) (b : Bool) → (q ≡ l.place → ⊥) → IsOff q live → IsOff q (if b then l ∷ live else live)
off_one_kept q l live true off rest = (off, rest)
off_one_kept q l live false off rest = rest

off_alone : (q place : ℕ) (live : List LiveRow) → IsOff q live → IsOff q (kept_alone place live)
off_alone q place [] off = tt
off_alone q place (l ∷ live) off = off_one_kept q l (kept_alone place live) (is_row place l) off.0 (off_alone q place live off.1)

-- a row that has an end
pub has_ended : (owner : ℕ) (rows : List Row) (l : LiveRow) (end : RowEnd) → IsStanding owner rows l → HasEnd (changed_at (ended_row end) rows l.place) l.place end
has_ended owner rows l end one = record {
  row = ended_row end one.row;
  there = row_changed_same (ended_row end) rows l.place one.row one.there;
  ended = ap (λ (o : Option RowEnd). stamped end o) one.ended;
}

has_same : (rows after : List Row) (q : ℕ) (end : RowEnd) → row_in after q ≡ row_in rows q → HasEnd rows q end → HasEnd after q end
has_same rows after q end same has = record { row = has.row; there = same ∙ has.there; ended = has.ended }

pub has_end : (why : EndCause) (moment q : ℕ) (end : RowEnd) (s : Stepped) → IsOff q s.call.live → HasEnd s.ledger.rows q end → HasEnd (step.ended_as why moment s).ledger.rows q end
has_end why moment q end s off has =
    has_same s.ledger.rows (step.ended_as why moment s).ledger.rows q end (off_cuts None moment (count_of s.tokens) q s.call.live s.ledger off) has

has_commit : (moment q : ℕ) (end : RowEnd) (s : Stepped) → HasEnd s.ledger.rows q end → HasEnd (step.committed q moment s).ledger.rows q end
has_commit moment q end s has = record {
  row = committed_row s.ledger.entry has.row;
  there = kept_cut moment (count_of s.tokens) q s.call.live (step.commit_stamped q s.ledger) ∙ row_changed_same (committed_row s.ledger.entry) s.ledger.rows q has.row has.there;
  ended = has.ended;
}

pub has_closed_if : (closes : Bool) (moment q : ℕ) (end : RowEnd) (s : Stepped) → IsOff q s.call.live → HasEnd s.ledger.rows q end → HasEnd (step.closed_if closes q moment s).ledger.rows q end
has_closed_if false moment q end s off has = has
has_closed_if true moment q end s off has =
    has_end ends.Row moment q end (step.committed q moment s) (off_alone q q s.call.live off) (has_commit moment q end s has)

reported_of : (reported : EndNews) (entry moment : ℕ) (rows : List Row) (q : ℕ) (tokens word : Option ℕ) → HasEnd rows q (record (row_end reported entry moment tokens) { word = word }) → HasReportedEnd reported entry moment rows q
reported_of reported entry moment rows q tokens word has = record {
  row = has.row;
  there = has.there;
  end = record (row_end reported entry moment tokens) { word = word };
  ended = has.ended;
  entry = refl;
  moment = refl;
  code = refl;
  text = refl;
  meta = refl;
  pushback = refl;
  unseen = refl;
  seen = refl;
  cause = refl;
}

reported_counted : (committed : Bool) (owner : ℕ) (l : LiveRow) (reported : EndNews) (moment word : ℕ) (s : Stepped) → IsOff l.place s.call.live → IsStanding owner s.ledger.rows l → HasReportedEnd reported s.ledger.entry moment (if committed then step.ended_as ends.Row moment (step.row_ended l.place (row_end reported s.ledger.entry moment (count_of s.tokens)) s) else step.counted_free l (row_end reported s.ledger.entry moment (count_of s.tokens)) moment word s).ledger.rows l.place
reported_counted true owner l reported moment word s off one =
    let end : RowEnd = row_end reported s.ledger.entry moment (count_of s.tokens) in
    reported_of reported s.ledger.entry moment _ l.place (count_of s.tokens) None
    (has_end ends.Row moment l.place end (step.row_ended l.place end s) off (has_ended owner s.ledger.rows l end one))
reported_counted false owner l reported moment word s off one =
    let end : RowEnd = row_end reported s.ledger.entry moment (count_of s.tokens) in
    let after : Judged = judged_of l end word s.call s.tokens in
    let last : RowEnd = record end { word = after.word } in
    reported_of reported s.ledger.entry moment _ l.place (count_of s.tokens) after.word
    (has_closed_if after.closes moment l.place last (with_judged l end after s) off (has_ended owner s.ledger.rows l last one))

reported_followed : (owner : ℕ) (l : LiveRow) (reported : EndNews) (moment : ℕ) (s : Stepped) → IsStanding owner s.ledger.rows l → HasReportedEnd reported s.ledger.entry moment (step.followed l reported moment s).ledger.rows l.place
reported_followed owner l reported moment s one =
    let end : RowEnd = row_end reported s.ledger.entry moment (count_of s.tokens) in
    let rows : List Row = changed_at (ended_row end) s.ledger.rows l.place in
    let has : HasEnd rows l.place end = has_ended owner s.ledger.rows l end one in
    reported_of reported s.ledger.entry moment _ l.place (count_of s.tokens) None
    (record { row = has.row; there = row_more rows _ l.place has.row has.there; ended = has.ended })

reported_live : (b : Bool) (l : LiveRow) (reported : EndNews) (moment word : ℕ) (s : Stepped) → IsStanding s.call.number s.ledger.rows l → HasReportedEnd reported s.ledger.entry moment (if b then step.followed l reported moment (left_live l.place s) else step.counted l reported moment word (settled reported (left_live l.place s))).ledger.rows l.place
reported_live true l reported moment word s one = reported_followed s.call.number l reported moment (left_live l.place s) one
reported_live false l reported moment word s one =
    reported_counted (is_some s.call.attempts.committed) s.call.number l reported moment word (settled reported (left_live l.place s))
    (off_found l.place (left_live l.place s).call.live (left_none l.place s.call.live)) one

reported_found : (place : ℕ) (found : Option LiveRow) (l : LiveRow) (reported : EndNews) (moment word : ℕ) (s : Stepped) → found ≡ Some l → IsStanding s.call.number s.ledger.rows l → HasReportedEnd reported s.ledger.entry moment (step.ended_if_live found reported moment word s).ledger.rows l.place
reported_found place None l reported moment word s e one = absurd (cc)
reported_found place (Some x) l reported moment word s e one =
    let is : l ≡ x = (cc) in
    subst (λ (y : LiveRow). HasReportedEnd reported s.ledger.entry moment (step.ended_if_live (Some y) reported moment word s).ledger.rows l.place) is
    (reported_live (is_followed s.call.attempts reported.cause reported.unseen) l reported moment word s one)

pub reported_end : (row : ℕ) (l : LiveRow) (reported : EndNews) (moment word : ℕ) (s : Stepped) → IsTied s → find_live row s.call.live ≡ Some l → HasReportedEnd reported s.ledger.entry moment (step.ended_at row reported moment word s).ledger.rows l.place
reported_end row l reported moment word s tied e =
    reported_found row (find_live row s.call.live) l reported moment word s e (found_stands s.call.number s.ledger.rows row s.call.live l tied e)
