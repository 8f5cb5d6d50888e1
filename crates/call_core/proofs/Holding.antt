-- The end of a row holds the tokens after it.
use Rattle.std.proofs.Common.{◌≡◌, ℕ, Bool, true, false, if◌then◌else◌, Option, Some, None, is_some, List, refl, subst}
use Rattle.grpc_base.specs.declared.event.EndCause.TheVariants as ends
use Rattle.attempt_ledger.specs.declared.news.EndNews.{EndNews}
use Rattle.attempt_ledger.specs.declared.row.Row.{Row}
use Rattle.attempt_ledger.specs.declared.row.RowEnd.{RowEnd}
use Rattle.ledger_stamps.specs.Steps.{changed_at, ended_row}
use Rattle.call_core.specs.declared.judge.Judged.{Judged}
use Rattle.call_core.specs.declared.live.LiveRow.{LiveRow}
use Rattle.call_core.specs.Holding.{HoldsTokens}
use Rattle.call_core.specs.Parts.{count_of, find_live, is_followed, row_end}
use Rattle.call_core.specs.Rows.{HasEnd, IsOff, IsStanding, IsTied}
use Rattle.call_core.specs.Steps as step
use Rattle.call_core.specs.Steps.{Stepped, judged_of, left_live, settled, with_judged}
use Rattle.call_core.proofs.Chains.{left_none}
use Rattle.call_core.proofs.Standing.{found_stands, off_found, row_more}
use Rattle.call_core.proofs.Report.{has_closed_if, has_end, has_ended}

tokens_of : (rows : List Row) (q : ℕ) (end : RowEnd) → HasEnd rows q end → HoldsTokens rows q end.tokens
tokens_of rows q end has = record { row = has.row; there = has.there; end = end; ended = has.ended; tokens = refl }

hold_closed : (b : Bool) (moment q : ℕ) (end : RowEnd) (w : Stepped) → end.tokens ≡ count_of w.tokens → IsOff q w.call.live → HasEnd w.ledger.rows q end → HoldsTokens (step.closed_if b q moment w).ledger.rows q (count_of (step.closed_if b q moment w).tokens)
hold_closed true moment q end w e off has =
    subst (λ (o : Option ℕ). HoldsTokens (step.closed_if true q moment w).ledger.rows q o) e
    (tokens_of (step.closed_if true q moment w).ledger.rows q end (has_closed_if true moment q end w off has))
hold_closed false moment q end w e off has = subst (λ (o : Option ℕ). HoldsTokens w.ledger.rows q o) e (tokens_of w.ledger.rows q end has)

hold_counted : (committed : Bool) (owner : ℕ) (l : LiveRow) (reported : EndNews) (moment word : ℕ) (s : Stepped) → IsOff l.place s.call.live → IsStanding owner s.ledger.rows l → HoldsTokens (if committed then step.ended_as ends.Row moment (step.row_ended l.place (row_end reported s.ledger.entry moment (count_of s.tokens)) s) else step.counted_free l (row_end reported s.ledger.entry moment (count_of s.tokens)) moment word s).ledger.rows l.place (count_of (if committed then step.ended_as ends.Row moment (step.row_ended l.place (row_end reported s.ledger.entry moment (count_of s.tokens)) s) else step.counted_free l (row_end reported s.ledger.entry moment (count_of s.tokens)) moment word s).tokens)
hold_counted true owner l reported moment word s off one =
    let end : RowEnd = row_end reported s.ledger.entry moment (count_of s.tokens) in
    let w : Stepped = step.row_ended l.place end s in
    tokens_of (step.ended_as ends.Row moment w).ledger.rows l.place end (has_end ends.Row moment l.place end w off (has_ended owner s.ledger.rows l end one))
hold_counted false owner l reported moment word s off one =
    let end : RowEnd = row_end reported s.ledger.entry moment (count_of s.tokens) in
    let after : Judged = judged_of l end word s.call s.tokens in
    let last : RowEnd = record end { word = after.word } in
    hold_closed after.closes moment l.place last (with_judged l end after s) refl off (has_ended owner s.ledger.rows l last one)

hold_live : (b : Bool) (l : LiveRow) (reported : EndNews) (moment word : ℕ) (s : Stepped) → IsStanding s.call.number s.ledger.rows l → HoldsTokens (if b then step.followed l reported moment (left_live l.place s) else step.counted l reported moment word (settled reported (left_live l.place s))).ledger.rows l.place (count_of (if b then step.followed l reported moment (left_live l.place s) else step.counted l reported moment word (settled reported (left_live l.place s))).tokens)
hold_live true l reported moment word s one =
    let end : RowEnd = row_end reported s.ledger.entry moment (count_of s.tokens) in
    let has : HasEnd (changed_at (ended_row end) s.ledger.rows l.place) l.place end = has_ended s.call.number s.ledger.rows l end one in
    record { row = has.row; there = row_more (changed_at (ended_row end) s.ledger.rows l.place) _ l.place has.row has.there; end = end; ended = has.ended; tokens = refl }
hold_live false l reported moment word s one =
    hold_counted (is_some s.call.attempts.committed) s.call.number l reported moment word (settled reported (left_live l.place s))
    (off_found l.place (left_live l.place s).call.live (left_none l.place s.call.live)) one

hold_found : (found : Option LiveRow) (l : LiveRow) (reported : EndNews) (moment word : ℕ) (s : Stepped) → found ≡ Some l → IsStanding s.call.number s.ledger.rows l → HoldsTokens (step.ended_if_live found reported moment word s).ledger.rows l.place (count_of (step.ended_if_live found reported moment word s).tokens)
hold_found None l reported moment word s e one = absurd (cc)
hold_found (Some x) l reported moment word s e one =
    let is : l ≡ x = (cc) in
    subst (λ (y : LiveRow). HoldsTokens (step.ended_if_live (Some y) reported moment word s).ledger.rows l.place (count_of (step.ended_if_live (Some y) reported moment word s).tokens)) is
    (hold_live (is_followed s.call.attempts reported.cause reported.unseen) l reported moment word s one)

pub hold_end : (row : ℕ) (l : LiveRow) (reported : EndNews) (moment word : ℕ) (s : Stepped) → IsTied s → find_live row s.call.live ≡ Some l → HoldsTokens (step.ended_at row reported moment word s).ledger.rows l.place (count_of (step.ended_at row reported moment word s).tokens)
hold_end row l reported moment word s tied e =
    hold_found (find_live row s.call.live) l reported moment word s e (found_stands s.call.number s.ledger.rows row s.call.live l tied e)
