-- What is done to a call in an entry writes stamps of that entry alone.
use Rattle.std.proofs.Common.{◌≡◌, ℕ, ◌+◌, Bool, true, false, not, ◌&&◌, ◌||◌, nat_le, nat_lt, length, if◌then◌else◌, min, Option, Some, None, is_some, List, [], ◌∷◌, ◌++◌, refl, subst, ◌∙◌}
use Rattle.grpc_base.specs.declared.event.EndCause.{EndCause}
use Rattle.grpc_base.specs.declared.event.EndCause.TheVariants as ends
use Rattle.grpc_base.specs.declared.event.Refusal.{Refusal}
use Rattle.grpc_base.specs.declared.fields.Field.{Field}
use Rattle.grpc_base.specs.declared.plan.Chosen.{Chosen}
use Rattle.attempt_ledger.specs.declared.ledger.CallSeen.{CallSeen}
use Rattle.attempt_ledger.specs.declared.ledger.Ledger.{Ledger}
use Rattle.attempt_ledger.specs.declared.news.EndNews.{EndNews}
use Rattle.attempt_ledger.specs.declared.news.News.{News}
use Rattle.attempt_ledger.specs.declared.news.News.TheVariants as news
use Rattle.attempt_ledger.specs.declared.row.Placed.{Placed}
use Rattle.attempt_ledger.specs.declared.row.Row.{Row}
use Rattle.attempt_ledger.specs.declared.row.RowEnd.{RowEnd}
use Rattle.attempt_ledger.specs.declared.row.RowKind.{RowKind}
use Rattle.attempt_ledger.specs.declared.row.RowKind.TheVariants as kind
use Rattle.grpc_frame.specs.Messages.{framed}
use Rattle.ledger_stamps.specs.Later.{Later, LaterCalls, LaterRows, NewRow, Written}
use Rattle.ledger_stamps.proofs.LaterLaws.{asks_same, call_configured, call_ended, call_noted, calls_same, generations_same, later_same, later_then, links_same, row_committed, row_ended, row_placed, rows_same}
use Rattle.ledger_stamps.proofs.LaterLaws as laws
use Rattle.call_core.specs.declared.judge.Judged.{Judged}
use Rattle.call_core.specs.declared.live.LiveRow.{LiveRow}
use Rattle.call_core.specs.Parts.{committed_buffer, count_of, cut_end, find_live, furthest, has_none, is_above, is_followed, is_tested, is_too_long, kind_of_next, names, pushed_over, read_of, row_end, stopped_attempts}
use Rattle.call_core.specs.Steps as step
use Rattle.call_core.specs.Steps.{Stepped, call_plan, cut_all, cut_row, cut_unless, deadline_at, full_with, is_committed_live, judged_of, left_live, new_row, next_due, next_place, send_refusal, settled, stamp_if, with_chosen, with_judged, with_message}

-- a ledger in the same entry, after writes of that entry
pub record Moved (l m : Ledger) : Type 0 where
  pub entry : m.entry ≡ l.entry
  pub later : Later l.entry l m

pub moved_same : (l : Ledger) → Moved l l
moved_same l = record { entry = refl; later = later_same l.entry l }

pub moved_then : (a b c : Ledger) → Moved a b → Moved b c → Moved a c
moved_then a b c first second =
    let later : Later a.entry b c = subst (λ (n : ℕ). Later n b c) first.entry second.later in
    record { entry = second.entry ∙ first.entry; later = later_then a.entry a b c first.later later }

moved_rows : (l : Ledger) (rows : List Row) → LaterRows l.entry l.rows rows → Moved l (record l { rows = rows })
moved_rows l rows h = record {
  entry = refl;
  later = record { rows = h; calls = calls_same l.entry l.calls; asks = asks_same l.entry l.asks; generations = generations_same l.entry l.generations; links = links_same l.entry l.links };
}

moved_calls : (l : Ledger) (calls : List CallSeen) → LaterCalls l.entry l.calls calls → Moved l (record l { calls = calls })
moved_calls l calls h = record {
  entry = refl;
  later = record { rows = rows_same l.entry l.rows; calls = h; asks = asks_same l.entry l.asks; generations = generations_same l.entry l.generations; links = links_same l.entry l.links };
}

-- a choice between two ledgers
moved_if : (l : Ledger) (b : Bool) (x y : Stepped) → Moved l x.ledger → Moved l y.ledger → Moved l (if b then x else y).ledger
moved_if l true x y first second = first
moved_if l false x y first second = second

-- cuts
moved_cut : (moment : ℕ) (tokens : Option ℕ) (place : ℕ) (l : Ledger) (link : Option ℕ) → Moved l (cut_row moment tokens place l link)
moved_cut moment tokens place l None = moved_same l
moved_cut moment tokens place l (Some link) =
    moved_rows l _ (row_ended l.entry l.rows place (cut_end l.entry moment (read_of l.links link) tokens) refl)

moved_unless : (kept : Bool) (l m : Ledger) → Moved l m → Moved l (if kept then l else m)
moved_unless true l m h = moved_same l
moved_unless false l m h = h

moved_all : (kept : Option ℕ) (moment : ℕ) (tokens : Option ℕ) (live : List LiveRow) (l : Ledger) → Moved l (cut_all kept moment tokens live l)
moved_all kept moment tokens [] l = moved_same l
moved_all kept moment tokens (row ∷ live) l =
    let m : Ledger = cut_unless kept moment tokens row l in
    moved_then l m (cut_all kept moment tokens live m)
    (moved_unless (names row.place kept) l (cut_row moment tokens row.place l row.link) (moved_cut moment tokens row.place l row.link))
    (moved_all kept moment tokens live m)

-- a commitment, and the end of a call
moved_stamp : (place : ℕ) (l : Ledger) → Moved l (step.commit_stamped place l)
moved_stamp place l = moved_rows l _ (row_committed l.entry l.rows place)

pub moved_commit : (place moment : ℕ) (s : Stepped) → Moved s.ledger (step.committed place moment s).ledger
moved_commit place moment s =
    moved_then s.ledger (step.commit_stamped place s.ledger) _ (moved_stamp place s.ledger)
    (moved_all (Some place) moment (count_of s.tokens) s.call.live (step.commit_stamped place s.ledger))

moved_end : (number : ℕ) (why : EndCause) (moment : ℕ) (l : Ledger) → Moved l (step.end_stamped number why moment l)
moved_end number why moment l =
    moved_calls l _ (call_ended l.entry l.calls number (record { entry = l.entry; moment = moment; cause = why }) refl)

pub moved_ended : (why : EndCause) (moment : ℕ) (s : Stepped) → Moved s.ledger (step.ended_as why moment s).ledger
moved_ended why moment s =
    let m : Ledger = cut_all None moment (count_of s.tokens) s.call.live s.ledger in
    moved_then s.ledger m _ (moved_all None moment (count_of s.tokens) s.call.live s.ledger) (moved_end s.call.number why moment m)

pub moved_ended_if : (ends : Bool) (why : EndCause) (moment : ℕ) (s : Stepped) → Moved s.ledger (step.ended_if ends why moment s).ledger
moved_ended_if true why moment s = moved_ended why moment s
moved_ended_if false why moment s = moved_same s.ledger

pub moved_by_row : (place moment : ℕ) (s : Stepped) → Moved s.ledger (step.ended_by_row place moment s).ledger
moved_by_row place moment s =
    moved_then s.ledger (step.committed place moment s).ledger _ (moved_commit place moment s) (moved_ended ends.Row moment (step.committed place moment s))

-- a row is made
moved_added : (number : ℕ) (why : RowKind) (due : ℕ) (committed : Option ℕ) (s : Stepped) → Written (λ e. e) s.ledger.entry None committed → Moved s.ledger (step.row_added number why due committed s).ledger
moved_added number why due committed s h =
    let row : Row = new_row s.call.number number why due committed in
    let fresh : NewRow s.ledger.entry row = record { call = refl; number = refl; kind = refl; due = refl; stamps = record { placed = tt; stream = tt; ended = tt; committed = h } } in
    let rows : Moved s.ledger (record s.ledger { rows = s.ledger.rows ++ row ∷ [] }) =
    moved_rows s.ledger _ (laws.row_added s.ledger.entry s.ledger.rows row fresh) in
    moved_then s.ledger (record s.ledger { rows = s.ledger.rows ++ row ∷ [] }) _ rows
    (moved_calls (record s.ledger { rows = s.ledger.rows ++ row ∷ [] }) _ (call_noted s.ledger.entry s.ledger.calls s.call.number))

moved_row_ended : (place : ℕ) (end : RowEnd) (s : Stepped) → end.entry ≡ s.ledger.entry → Moved s.ledger (step.row_ended place end s).ledger
moved_row_ended place end s e = moved_rows s.ledger _ (row_ended s.ledger.entry s.ledger.rows place end e)

written_if : (b : Bool) (n : ℕ) → Written (λ e. e) n None (stamp_if b n)
written_if true n = refl
written_if false n = tt

moved_followed : (row : LiveRow) (reported : EndNews) (moment : ℕ) (s : Stepped) → Moved s.ledger (step.followed row reported moment s).ledger
moved_followed row reported moment s =
    let end : RowEnd = row_end reported s.ledger.entry moment (count_of s.tokens) in
    let t : Stepped = step.row_ended row.place end s in
    moved_then s.ledger t.ledger _ (moved_row_ended row.place end s refl)
    (moved_added row.number kind.Transparent moment (stamp_if (names row.place s.call.attempts.committed) s.ledger.entry) t (written_if (names row.place s.call.attempts.committed) s.ledger.entry))

-- an end that counts
moved_closed_if : (closes : Bool) (place moment : ℕ) (s : Stepped) → Moved s.ledger (step.closed_if closes place moment s).ledger
moved_closed_if true place moment s = moved_by_row place moment s
moved_closed_if false place moment s = moved_same s.ledger

moved_judged : (row : LiveRow) (end : RowEnd) (after : Judged) (moment : ℕ) (s : Stepped) → end.entry ≡ s.ledger.entry → Moved s.ledger (step.closed_if after.closes row.place moment (with_judged row end after s)).ledger
moved_judged row end after moment s e =
    moved_then s.ledger (with_judged row end after s).ledger _
    (moved_row_ended row.place (record end { word = after.word }) s e)
    (moved_closed_if after.closes row.place moment (with_judged row end after s))

moved_counted : (row : LiveRow) (reported : EndNews) (moment word : ℕ) (s : Stepped) → Moved s.ledger (step.counted row reported moment word s).ledger
moved_counted row reported moment word s =
    let end : RowEnd = row_end reported s.ledger.entry moment (count_of s.tokens) in
    moved_if s.ledger (is_some s.call.attempts.committed) (step.ended_as ends.Row moment (step.row_ended row.place end s)) (step.counted_free row end moment word s)
    (moved_then s.ledger (step.row_ended row.place end s).ledger _ (moved_row_ended row.place end s refl) (moved_ended ends.Row moment (step.row_ended row.place end s)))
    (moved_judged row end (judged_of row end word s.call s.tokens) moment s refl)

moved_live : (row : LiveRow) (reported : EndNews) (moment word : ℕ) (s : Stepped) → Moved s.ledger (step.live_ended row reported moment word s).ledger
moved_live row reported moment word s =
    moved_if s.ledger (is_followed s.call.attempts reported.cause reported.unseen) (step.followed row reported moment (left_live row.place s)) (step.counted row reported moment word (settled reported (left_live row.place s)))
    (moved_followed row reported moment (left_live row.place s))
    (moved_counted row reported moment word (settled reported (left_live row.place s)))

moved_found : (found : Option LiveRow) (reported : EndNews) (moment word : ℕ) (s : Stepped) → Moved s.ledger (step.ended_if_live found reported moment word s).ledger
moved_found None reported moment word s = moved_same s.ledger
moved_found (Some row) reported moment word s = moved_live row reported moment word s

pub moved_ended_at : (row : ℕ) (reported : EndNews) (moment word : ℕ) (s : Stepped) → Moved s.ledger (step.ended_at row reported moment word s).ledger
moved_ended_at row reported moment word s = moved_found (find_live row s.call.live) reported moment word s

-- news
moved_head : (row : ℕ) (meta : List Field) (moment : ℕ) (s : Stepped) → Moved s.ledger (step.received_head row meta moment s).ledger
moved_head row meta moment s =
    let c : Stepped = record s { call = record s.call { buffer = committed_buffer row s.call.buffer } } in
    moved_if s.ledger (is_some (find_live row s.call.live)) (step.with_head meta (step.commit_by_head row moment s)) s
    (moved_if s.ledger (is_some s.call.attempts.committed) s (step.committed row moment c) (moved_same s.ledger) (moved_commit row moment c))
    (moved_same s.ledger)

pub moved_news : (row : ℕ) (reported : News) (moment word : ℕ) (s : Stepped) → Moved s.ledger (step.received_news row reported moment word s).ledger
moved_news row (news.Head tag meta seen) moment word s = moved_head row meta moment s
moved_news row (news.Message tag octets seen) moment word s = moved_same s.ledger
moved_news row (news.TooLarge tag seen) moment word s = moved_ended_if (is_committed_live row s.call) ends.Response moment s
moved_news row (news.Ended tag end) moment word s = moved_ended_at row end moment word s
moved_news row news.Ready moment word s = moved_same s.ledger
moved_news row news.Retiring moment word s = moved_same s.ledger
moved_news row (news.Broken code) moment word s = moved_same s.ledger

-- the configuration
pub moved_configured : (chosen : Chosen) (moment : ℕ) (s : Stepped) → Moved s.ledger (step.configured chosen moment s).ledger
moved_configured chosen moment s =
    let t : Stepped = with_chosen chosen moment s in
    moved_if s.ledger (is_some s.call.ended || is_some s.call.chosen) s (step.ended_if (is_too_long (Some chosen) s.call.longest) ends.Request moment t)
    (moved_same s.ledger)
    (moved_then s.ledger t.ledger _ (moved_calls s.ledger _ (call_configured s.ledger.entry s.ledger.calls s.call.number)) (moved_ended_if (is_too_long (Some chosen) s.call.longest) ends.Request moment t))

-- a placing
moved_place_found : (found : Option LiveRow) (at : Placed) (s : Stepped) → at.entry ≡ s.ledger.entry → Moved s.ledger (step.placed_if_live found at s).ledger
moved_place_found None at s e = moved_same s.ledger
moved_place_found (Some row) at s e =
    moved_if s.ledger (is_some row.link) s (step.placed_row_live row at s) (moved_same s.ledger) (moved_rows s.ledger _ (row_placed s.ledger.entry s.ledger.rows row.place at e))

pub moved_placed : (row : ℕ) (at : Placed) (s : Stepped) → at.entry ≡ s.ledger.entry → Moved s.ledger (step.placed_at row at s).ledger
moved_placed row at s e = moved_place_found (find_live row s.call.live) at s e

-- the next attempt
moved_made : (due : ℕ) (s : Stepped) → Moved s.ledger (step.made due s).ledger
moved_made due s =
    moved_added (min (s.call.attempts.sent + 1) 4294967295) (kind_of_next (call_plan s.call) s.call.attempts) due None s tt

moved_by_last : (last : Option ℕ) (moment : ℕ) (s : Stepped) → Moved s.ledger (step.ended_by_last last moment s).ledger
moved_by_last None moment s = moved_same s.ledger
moved_by_last (Some last) moment s =
    moved_if s.ledger (has_none s.call.live) (step.ended_by_row last moment s) s (moved_by_row last moment s) (moved_same s.ledger)

moved_due_at : (moment due : ℕ) (s : Stepped) → Moved s.ledger (step.due_at moment due s).ledger
moved_due_at moment due s =
    moved_if s.ledger (is_tested (call_plan s.call) s.call.attempts && not (is_above s.tokens)) (step.refused_due moment s) (step.made due s)
    (moved_by_last s.call.attempts.last moment (step.with_attempts (stopped_attempts s.call.attempts) s))
    (moved_made due s)

moved_made_if : (due : Option ℕ) (moment : ℕ) (s : Stepped) → Moved s.ledger (step.made_if due moment s).ledger
moved_made_if None moment s = moved_same s.ledger
moved_made_if (Some due) moment s = moved_if s.ledger (nat_lt moment due) s (step.due_at moment due s) (moved_same s.ledger) (moved_due_at moment due s)

pub moved_due : (moment : ℕ) (s : Stepped) → Moved s.ledger (step.made_due moment s).ledger
moved_due moment s = moved_made_if (next_due s.call) moment s

-- what the application does, and the ends by the channel
moved_over : (over : Bool) (row : Option ℕ) (moment : ℕ) (s : Stepped) → Moved s.ledger (step.committed_over over row moment s).ledger
moved_over over None moment s = moved_same s.ledger
moved_over over (Some row) moment s = moved_if s.ledger over (step.committed row moment s) s (moved_commit row moment s) (moved_same s.ledger)

moved_accepted_if : (full : Option ℕ) (message : List ℕ) (moment : ℕ) (s : Stepped) → Moved s.ledger (step.accepted_if full message moment s).ledger
moved_accepted_if None message moment s =
    let row : Option ℕ = furthest s.call.buffer s.call.live in
    moved_over (pushed_over s.call.buffer (framed message) row) row moment (record s { call = with_message message row s.call })
moved_accepted_if (Some held) message moment s = moved_same s.ledger

moved_sent_if : (refusal : Option Refusal) (message : List ℕ) (moment : ℕ) (s : Stepped) → Moved s.ledger (step.sent_if refusal message moment s).ledger
moved_sent_if None message moment s =
    moved_if s.ledger (is_too_long s.call.chosen (length message)) (step.ended_as ends.Request moment s) (step.accepted_if (full_with (length message) s.call) message moment s)
    (moved_ended ends.Request moment s) (moved_accepted_if (full_with (length message) s.call) message moment s)
moved_sent_if (Some refusal) message moment s = moved_same s.ledger

pub moved_sent : (message : List ℕ) (moment : ℕ) (s : Stepped) → Moved s.ledger (step.sent message moment s).ledger
moved_sent message moment s = moved_sent_if (send_refusal s.call) message moment s

pub moved_closed_by : (why : EndCause) (moment : ℕ) (s : Stepped) → Moved s.ledger (step.closed_by why moment s).ledger
moved_closed_by why moment s = moved_ended_if (not (is_some s.call.ended)) why moment s

moved_timed : (deadline : Option ℕ) (moment : ℕ) (s : Stepped) → Moved s.ledger (step.timed_out_if deadline moment s).ledger
moved_timed None moment s = moved_same s.ledger
moved_timed (Some deadline) moment s =
    moved_if s.ledger (nat_le deadline moment) (step.closed_by ends.Deadline moment s) s (moved_closed_by ends.Deadline moment s) (moved_same s.ledger)

pub moved_timed_out : (moment : ℕ) (s : Stepped) → Moved s.ledger (step.timed_out moment s).ledger
moved_timed_out moment s = moved_timed (deadline_at s.call) moment s
