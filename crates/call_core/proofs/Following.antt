-- A transparent retry follows exactly the ends that it is to follow.
use Rattle.std.proofs.Common.{◌≡◌, ℕ, zero, suc, ◌+◌, Bool, true, false, not, ◌&&◌, ◌||◌, nat_lt, if◌then◌else◌, length, Option, Some, None, is_some, List, [], ◌∷◌, ◌++◌, refl, sym, ap, subst, ◌∙◌}
use Rattle.std.specs.Option.{option_map_or}
use Rattle.grpc_base.specs.declared.event.EndCause.TheVariants as ends
use Rattle.attempt_ledger.specs.declared.ledger.Ledger.{Ledger}
use Rattle.attempt_ledger.specs.declared.news.EndNews.{EndNews}
use Rattle.attempt_ledger.specs.declared.row.Row.{Row}
use Rattle.attempt_ledger.specs.declared.row.RowCause.{RowCause}
use Rattle.attempt_ledger.specs.declared.row.RowCause.TheVariants as causes
use Rattle.attempt_ledger.specs.declared.row.RowEnd.{RowEnd}
use Rattle.attempt_ledger.specs.declared.row.RowKind.TheVariants as kind
use Rattle.attempt_ledger.specs.TransparentRows.{is_by_peer, is_unsent}
use Rattle.ledger_stamps.specs.Steps.{changed, changed_at, committed_row, ended_row}
use Rattle.call_core.specs.declared.act.CallAct.TheVariants as act
use Rattle.call_core.specs.declared.attempts.Attempts.{Attempts}
use Rattle.call_core.specs.declared.judge.Judged.{Judged}
use Rattle.call_core.specs.declared.live.LiveRow.{LiveRow}
use Rattle.call_core.specs.Following.{IsRetried, is_retried}
use Rattle.call_core.specs.Parts.{count_of, cut_end, find_live, is_followed, names, read_of, row_end}
use Rattle.call_core.specs.Rows.{row_in}
use Rattle.call_core.specs.Steps as step
use Rattle.call_core.specs.Steps.{Stepped, cut_all, cut_row, cut_unless, judged_of, left_live, new_row, settled, stamp_if, with_judged}
use Rattle.call_core.proofs.Standing.{row_last}

-- the test is the one of the standard
pub retried_by : (a : Attempts) (why : RowCause) (unseen : Bool) → is_followed a why unseen ≡ (is_unsent why || (is_by_peer why && unseen && not (is_some a.committed) && not a.is_refusal_followed))
retried_by a causes.Unsent unseen = refl
retried_by a causes.Goaway unseen = refl
retried_by a causes.Reset unseen = refl
retried_by a causes.Status unseen = refl
retried_by a causes.Http unseen = refl
retried_by a causes.Framing unseen = refl
retried_by a causes.Lost unseen = refl
retried_by a causes.Pick unseen = refl
retried_by a causes.Cut unseen = refl

-- writes leave the number of rows
pub length_changed : (f : Row → Row) (rows : List Row) (i : ℕ) → length (changed f rows i) ≡ length rows
length_changed f [] i = refl
length_changed f (r ∷ rows) zero = refl
length_changed f (r ∷ rows) (suc i) = ap suc (length_changed f rows i)

length_index : (f : Row → Row) (rows : List Row) (i : ℕ) (b : Bool) → length (option_map_or (λ index. changed f rows index) (if b then Some i else None) rows) ≡ length rows
length_index f rows i true = length_changed f rows i
length_index f rows i false = refl

pub length_at : (f : Row → Row) (rows : List Row) (place : ℕ) → length (changed_at f rows place) ≡ length rows
length_at f rows zero = refl
length_at f rows (suc i) = length_index f rows i (nat_lt i (length rows))

length_cut : (kept : Bool) (moment : ℕ) (tokens : Option ℕ) (place : ℕ) (l : Ledger) (link : Option ℕ) → length (if kept then l else cut_row moment tokens place l link).rows ≡ length l.rows
length_cut true moment tokens place l link = refl
length_cut false moment tokens place l None = refl
length_cut false moment tokens place l (Some link) = length_at (ended_row (cut_end l.entry moment (read_of l.links link) tokens)) l.rows place

length_cuts : (kept : Option ℕ) (moment : ℕ) (tokens : Option ℕ) (live : List LiveRow) (l : Ledger) → length (cut_all kept moment tokens live l).rows ≡ length l.rows
length_cuts kept moment tokens [] l = refl
length_cuts kept moment tokens (row ∷ live) l =
    length_cuts kept moment tokens live (cut_unless kept moment tokens row l) ∙ length_cut (names row.place kept) moment tokens row.place l row.link

length_end : (moment : ℕ) (s : Stepped) → length (step.ended_as ends.Row moment s).ledger.rows ≡ length s.ledger.rows
length_end moment s = length_cuts None moment (count_of s.tokens) s.call.live s.ledger

length_commit : (place moment : ℕ) (s : Stepped) → length (step.committed place moment s).ledger.rows ≡ length s.ledger.rows
length_commit place moment s =
    length_cuts (Some place) moment (count_of s.tokens) s.call.live (step.commit_stamped place s.ledger) ∙ length_at (committed_row s.ledger.entry) s.ledger.rows place

length_closed : (b : Bool) (place moment : ℕ) (s : Stepped) → length (step.closed_if b place moment s).ledger.rows ≡ length s.ledger.rows
length_closed true place moment s = length_end moment (step.committed place moment s) ∙ length_commit place moment s
length_closed false place moment s = refl

length_counted : (committed : Bool) (row : LiveRow) (reported : EndNews) (moment word : ℕ) (s : Stepped) → length (if committed then step.ended_as ends.Row moment (step.row_ended row.place (row_end reported s.ledger.entry moment (count_of s.tokens)) s) else step.counted_free row (row_end reported s.ledger.entry moment (count_of s.tokens)) moment word s).ledger.rows ≡ length s.ledger.rows
length_counted true row reported moment word s =
    let end : RowEnd = row_end reported s.ledger.entry moment (count_of s.tokens) in
    length_end moment (step.row_ended row.place end s) ∙ length_at (ended_row end) s.ledger.rows row.place
length_counted false row reported moment word s =
    let end : RowEnd = row_end reported s.ledger.entry moment (count_of s.tokens) in
    let after : Judged = judged_of row end word s.call s.tokens in
    length_closed after.closes row.place moment (with_judged row end after s) ∙ length_at (ended_row (record end { word = after.word })) s.ledger.rows row.place

-- the step of a row that is live
live_step : (row : ℕ) (live : LiveRow) (reported : EndNews) (moment word : ℕ) (s : Stepped) → find_live row s.call.live ≡ Some live → step.ended_at row reported moment word s ≡ step.live_ended live reported moment word s
live_step row live reported moment word s e = ap (λ (o : Option LiveRow). step.ended_if_live o reported moment word s) e

test_step : (live : LiveRow) (reported : EndNews) (moment word : ℕ) (s : Stepped) (b : Bool) → is_retried reported s.call.attempts ≡ b → step.live_ended live reported moment word s ≡ (if b then step.followed live reported moment (left_live live.place s) else step.counted live reported moment word (settled reported (left_live live.place s)))
test_step live reported moment word s b e =
    ap (λ (t : Bool). if t then step.followed live reported moment (left_live live.place s) else step.counted live reported moment word (settled reported (left_live live.place s)))
    (retried_by s.call.attempts reported.cause reported.unseen ∙ e)

followed_is : (live : LiveRow) (reported : EndNews) (moment : ℕ) (s : Stepped) → IsRetried live moment s (step.followed live reported moment (left_live live.place s))
followed_is live reported moment s =
    let end : RowEnd = row_end reported s.ledger.entry moment (count_of s.tokens) in
    let rows : List Row = changed_at (ended_row end) s.ledger.rows live.place in
    let x : Row = new_row s.call.number live.number kind.Transparent moment (stamp_if (names live.place s.call.attempts.committed) s.ledger.entry) in
    let same : length rows ≡ length s.ledger.rows = length_at (ended_row end) s.ledger.rows live.place in
    record {
      row = x;
      there = subst (λ (k : ℕ). row_in (rows ++ x ∷ []) (k + 1) ≡ Some x) same (row_last rows x);
      call = refl;
      number = refl;
      kind = refl;
      due = refl;
      committed = refl;
      queued = ap (λ (k : ℕ). s.acts ++ act.Queue (k + 1) ∷ []) same;
      tokens = refl;
    }

pub retried_end : (row : ℕ) (live : LiveRow) (reported : EndNews) (moment word : ℕ) (s : Stepped) → find_live row s.call.live ≡ Some live → is_retried reported s.call.attempts ≡ true → IsRetried live moment s (step.ended_at row reported moment word s)
retried_end row live reported moment word s e retried =
    subst (λ (t : Stepped). IsRetried live moment s t) (sym (live_step row live reported moment word s e ∙ test_step live reported moment word s true retried)) (followed_is live reported moment s)

pub counted_end : (row : ℕ) (live : LiveRow) (reported : EndNews) (moment word : ℕ) (s : Stepped) → find_live row s.call.live ≡ Some live → is_retried reported s.call.attempts ≡ false → length (step.ended_at row reported moment word s).ledger.rows ≡ length s.ledger.rows
counted_end row live reported moment word s e counted =
    ap (λ (t : Stepped). length t.ledger.rows) (live_step row live reported moment word s e ∙ test_step live reported moment word s false counted)
    ∙ length_counted (is_some s.call.attempts.committed) live reported moment word (settled reported (left_live live.place s))
