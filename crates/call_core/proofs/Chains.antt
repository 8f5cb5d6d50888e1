-- What holds of each part of a step, and of one after another, holds of every step of a call.
use Rattle.std.proofs.Common.{◌≡◌, ◌≤◌, ℕ, Bool, true, false, not, ◌&&◌, ◌||◌, nat_le, nat_lt, length, if◌then◌else◌, Option, Some, None, is_some, List, [], ◌∷◌, refl, ap, ◌∙◌}
use Rattle.grpc_base.specs.declared.event.EndCause.{EndCause}
use Rattle.grpc_base.specs.declared.event.EndCause.TheVariants as ends
use Rattle.grpc_base.specs.declared.event.Refusal.{Refusal}
use Rattle.grpc_base.specs.declared.fields.Field.{Field}
use Rattle.grpc_base.specs.declared.plan.Chosen.{Chosen}
use Rattle.attempt_ledger.specs.Numbering.{most_attempts}
use Rattle.attempt_ledger.specs.declared.news.EndNews.{EndNews}
use Rattle.attempt_ledger.specs.declared.news.News.{News}
use Rattle.attempt_ledger.specs.declared.news.News.TheVariants as news
use Rattle.attempt_ledger.specs.declared.row.Placed.{Placed}
use Rattle.attempt_ledger.specs.declared.row.RowEnd.{RowEnd}
use Rattle.attempt_buffer.specs.Buffers.{Buffered}
use Rattle.grpc_frame.specs.Messages.{framed}
use Rattle.call_core.specs.declared.judge.Judged.{Judged}
use Rattle.call_core.specs.declared.live.LiveRow.{LiveRow}
use Rattle.call_core.specs.Parts.{committed_buffer, count_of, find_live, furthest, has_none, is_above, is_followed, is_row, is_tested, is_too_long, pushed_over, row_end, stopped_attempts, without}
use Rattle.call_core.specs.Steps as step
use Rattle.call_core.specs.Steps.{Stepped, call_plan, deadline_at, full_with, is_committed_live, judged_of, left_live, next_due, send_refusal, settled, with_chosen, with_judged, with_message}

abbrev pub with_buffer : Buffered → Stepped → Stepped
with_buffer b s = record s { call = record s.call { buffer = b } }

-- the parts of all steps
pub record Chain (R : Stepped → Stepped → Type 0) : Type 0 where
  pub same : (s : Stepped) → R s s
  pub joined : (a b c : Stepped) → R a b → R b c → R a c
  pub committed : (place moment : ℕ) (s : Stepped) → R s (step.committed place moment s)
  pub ended : (why : EndCause) (moment : ℕ) (s : Stepped) → R s (step.ended_as why moment s)
  pub followed : (row : LiveRow) (reported : EndNews) (moment : ℕ) (s : Stepped) → find_live row.place s.call.live ≡ None → R s (step.followed row reported moment s)
  pub row_ended : (place : ℕ) (end : RowEnd) (s : Stepped) → end.entry ≡ s.ledger.entry → find_live place s.call.live ≡ None → R s (step.row_ended place end s)
  pub judged : (row : LiveRow) (end : RowEnd) (word : ℕ) (s : Stepped) → end.entry ≡ s.ledger.entry → find_live row.place s.call.live ≡ None → s.call.attempts.committed ≡ None → R s (with_judged row end (judged_of row end word s.call s.tokens) s)
  pub left : (place : ℕ) (s : Stepped) → R s (left_live place s)
  pub settled : (reported : EndNews) (s : Stepped) → R s (settled reported s)
  pub buffered : (b : Buffered) (s : Stepped) → R s (with_buffer b s)
  pub head : (meta : List Field) (s : Stepped) → R s (step.with_head meta s)
  pub message : (row : ℕ) (octets : List ℕ) (s : Stepped) → R s (record s { call = step.received_message row octets s.call })
  pub chosen : (chosen : Chosen) (moment : ℕ) (s : Stepped) → most_attempts chosen.plan ≤ 4294967295 → s.call.ended ≡ None → s.call.chosen ≡ None → R s (with_chosen chosen moment s)
  pub placed : (place : ℕ) (row : LiveRow) (at : Placed) (s : Stepped) → at.entry ≡ s.ledger.entry → find_live place s.call.live ≡ Some row → row.link ≡ None → R s (step.placed_row_live row at s)
  pub stopped : (s : Stepped) → R s (step.with_attempts (stopped_attempts s.call.attempts) s)
  pub made : (due : ℕ) (s : Stepped) → next_due s.call ≡ Some due → R s (step.made due s)
  pub sent : (message : List ℕ) (row : Option ℕ) (s : Stepped) → R s (record s { call = with_message message row s.call })

chain_if : (R : Stepped → Stepped → Type 0) (b : Bool) (s x y : Stepped) → R s x → R s y → R s (if b then x else y)
chain_if R true s x y first second = first
chain_if R false s x y first second = second

chain_end_if : (R : Stepped → Stepped → Type 0) → Chain R → (ends : Bool) (why : EndCause) (moment : ℕ) (s : Stepped) → R s (step.ended_if ends why moment s)
chain_end_if R h true why moment s = h.ended why moment s
chain_end_if R h false why moment s = h.same s

chain_by_row : (R : Stepped → Stepped → Type 0) → Chain R → (place moment : ℕ) (s : Stepped) → R s (step.ended_by_row place moment s)
chain_by_row R h place moment s =
    h.joined s (step.committed place moment s) (step.ended_by_row place moment s) (h.committed place moment s) (h.ended ends.Row moment (step.committed place moment s))

chain_closed_if : (R : Stepped → Stepped → Type 0) → Chain R → (closes : Bool) (place moment : ℕ) (s : Stepped) → R s (step.closed_if closes place moment s)
chain_closed_if R h true place moment s = chain_by_row R h place moment s
chain_closed_if R h false place moment s = h.same s

chain_counted_by : (R : Stepped → Stepped → Type 0) → Chain R → (row : LiveRow) (end : RowEnd) (moment word : ℕ) (s : Stepped) (o : Option ℕ) → s.call.attempts.committed ≡ o → end.entry ≡ s.ledger.entry → find_live row.place s.call.live ≡ None → R s (if is_some o then step.ended_as ends.Row moment (step.row_ended row.place end s) else step.counted_free row end moment word s)
chain_counted_by R h row end moment word s (Some p) e at gone =
    h.joined s (step.row_ended row.place end s) (step.ended_as ends.Row moment (step.row_ended row.place end s)) (h.row_ended row.place end s at gone) (h.ended ends.Row moment (step.row_ended row.place end s))
chain_counted_by R h row end moment word s None e at gone =
    let after : Judged = judged_of row end word s.call s.tokens in
    h.joined s (with_judged row end after s) (step.counted_free row end moment word s) (h.judged row end word s at gone e) (chain_closed_if R h after.closes row.place moment (with_judged row end after s))

chain_counted : (R : Stepped → Stepped → Type 0) → Chain R → (row : LiveRow) (reported : EndNews) (moment word : ℕ) (s : Stepped) → find_live row.place s.call.live ≡ None → R s (step.counted row reported moment word s)
chain_counted R h row reported moment word s gone =
    chain_counted_by R h row (row_end reported s.ledger.entry moment (count_of s.tokens)) moment word s s.call.attempts.committed refl refl gone

-- a row that left isn't found
left_one : (place : ℕ) (l : LiveRow) (live : List LiveRow) (b : Bool) → is_row place l ≡ b → find_live place live ≡ None → find_live place (if not b then l ∷ live else live) ≡ None
left_one place l live true e rest = rest
left_one place l live false e rest = ap (λ (b : Bool). if b then Some l else find_live place live) e ∙ rest

pub left_none : (place : ℕ) (live : List LiveRow) → find_live place (without place live) ≡ None
left_none place [] = refl
left_none place (l ∷ live) = left_one place l (without place live) (is_row place l) refl (left_none place live)

chain_live : (R : Stepped → Stepped → Type 0) → Chain R → (row : LiveRow) (reported : EndNews) (moment word : ℕ) (s : Stepped) → R s (step.live_ended row reported moment word s)
chain_live R h row reported moment word s =
    let u : Stepped = left_live row.place s in
    let v : Stepped = settled reported u in
    let gone : find_live row.place u.call.live ≡ None = left_none row.place s.call.live in
    chain_if R (is_followed s.call.attempts reported.cause reported.unseen) s (step.followed row reported moment u) (step.counted row reported moment word v)
    (h.joined s u (step.followed row reported moment u) (h.left row.place s) (h.followed row reported moment u gone))
    (h.joined s u (step.counted row reported moment word v) (h.left row.place s)
    (h.joined u v (step.counted row reported moment word v) (h.settled reported u) (chain_counted R h row reported moment word v gone)))

chain_found : (R : Stepped → Stepped → Type 0) → Chain R → (found : Option LiveRow) (reported : EndNews) (moment word : ℕ) (s : Stepped) → R s (step.ended_if_live found reported moment word s)
chain_found R h None reported moment word s = h.same s
chain_found R h (Some row) reported moment word s = chain_live R h row reported moment word s

pub chain_ended_at : (R : Stepped → Stepped → Type 0) → Chain R → (row : ℕ) (reported : EndNews) (moment word : ℕ) (s : Stepped) → R s (step.ended_at row reported moment word s)
chain_ended_at R h row reported moment word s = chain_found R h (find_live row s.call.live) reported moment word s

chain_head : (R : Stepped → Stepped → Type 0) → Chain R → (row : ℕ) (meta : List Field) (moment : ℕ) (s : Stepped) → R s (step.received_head row meta moment s)
chain_head R h row meta moment s =
    let c : Stepped = with_buffer (committed_buffer row s.call.buffer) s in
    let t : Stepped = step.commit_by_head row moment s in
    chain_if R (is_some (find_live row s.call.live)) s (step.with_head meta t) s
    (h.joined s t (step.with_head meta t)
    (chain_if R (is_some s.call.attempts.committed) s s (step.committed row moment c) (h.same s)
    (h.joined s c (step.committed row moment c) (h.buffered (committed_buffer row s.call.buffer) s) (h.committed row moment c)))
    (h.head meta t))
    (h.same s)

pub chain_news : (R : Stepped → Stepped → Type 0) → Chain R → (row : ℕ) (reported : News) (moment word : ℕ) (s : Stepped) → R s (step.received_news row reported moment word s)
chain_news R h row (news.Head tag meta seen) moment word s = chain_head R h row meta moment s
chain_news R h row (news.Message tag octets seen) moment word s = h.message row octets s
chain_news R h row (news.TooLarge tag seen) moment word s = chain_end_if R h (is_committed_live row s.call) ends.Response moment s
chain_news R h row (news.Ended tag end) moment word s = chain_ended_at R h row end moment word s
chain_news R h row news.Ready moment word s = h.same s
chain_news R h row news.Retiring moment word s = h.same s
chain_news R h row (news.Broken code) moment word s = h.same s

chain_configured_by : (R : Stepped → Stepped → Type 0) → Chain R → (chosen : Chosen) (moment : ℕ) (s : Stepped) (ended : Option EndCause) (before : Option Chosen) → most_attempts chosen.plan ≤ 4294967295 → s.call.ended ≡ ended → s.call.chosen ≡ before → R s (if is_some ended || is_some before then s else step.ended_if (is_too_long (Some chosen) s.call.longest) ends.Request moment (with_chosen chosen moment s))
chain_configured_by R h chosen moment s (Some why) before limit e f = h.same s
chain_configured_by R h chosen moment s None (Some old) limit e f = h.same s
chain_configured_by R h chosen moment s None None limit e f =
    let t : Stepped = with_chosen chosen moment s in
    h.joined s t (step.ended_if (is_too_long (Some chosen) s.call.longest) ends.Request moment t) (h.chosen chosen moment s limit e f) (chain_end_if R h (is_too_long (Some chosen) s.call.longest) ends.Request moment t)

pub chain_configured : (R : Stepped → Stepped → Type 0) → Chain R → (chosen : Chosen) (moment : ℕ) (s : Stepped) → most_attempts chosen.plan ≤ 4294967295 → R s (step.configured chosen moment s)
chain_configured R h chosen moment s limit = chain_configured_by R h chosen moment s s.call.ended s.call.chosen limit refl refl

chain_place_free : (R : Stepped → Stepped → Type 0) → Chain R → (place : ℕ) (row : LiveRow) (at : Placed) (s : Stepped) (link : Option ℕ) → row.link ≡ link → at.entry ≡ s.ledger.entry → find_live place s.call.live ≡ Some row → R s (if is_some link then s else step.placed_row_live row at s)
chain_place_free R h place row at s (Some l) free e found = h.same s
chain_place_free R h place row at s None free e found = h.placed place row at s e found free

chain_place_found : (R : Stepped → Stepped → Type 0) → Chain R → (place : ℕ) (found : Option LiveRow) (at : Placed) (s : Stepped) → at.entry ≡ s.ledger.entry → find_live place s.call.live ≡ found → R s (step.placed_if_live found at s)
chain_place_found R h place None at s e f = h.same s
chain_place_found R h place (Some row) at s e f = chain_place_free R h place row at s row.link refl e f

pub chain_placed : (R : Stepped → Stepped → Type 0) → Chain R → (row : ℕ) (at : Placed) (s : Stepped) → at.entry ≡ s.ledger.entry → R s (step.placed_at row at s)
chain_placed R h row at s e = chain_place_found R h row (find_live row s.call.live) at s e refl

chain_by_last : (R : Stepped → Stepped → Type 0) → Chain R → (last : Option ℕ) (moment : ℕ) (s : Stepped) → R s (step.ended_by_last last moment s)
chain_by_last R h None moment s = h.same s
chain_by_last R h (Some last) moment s = chain_if R (has_none s.call.live) s (step.ended_by_row last moment s) s (chain_by_row R h last moment s) (h.same s)

chain_made_if : (R : Stepped → Stepped → Type 0) → Chain R → (due : Option ℕ) (moment : ℕ) (s : Stepped) → next_due s.call ≡ due → R s (step.made_if due moment s)
chain_made_if R h None moment s e = h.same s
chain_made_if R h (Some due) moment s e =
    let t : Stepped = step.with_attempts (stopped_attempts s.call.attempts) s in
    chain_if R (nat_lt moment due) s s (step.due_at moment due s) (h.same s)
    (chain_if R (is_tested (call_plan s.call) s.call.attempts && not (is_above s.tokens)) s (step.refused_due moment s) (step.made due s)
    (h.joined s t (step.refused_due moment s) (h.stopped s) (chain_by_last R h s.call.attempts.last moment t))
    (h.made due s e))

pub chain_due : (R : Stepped → Stepped → Type 0) → Chain R → (moment : ℕ) (s : Stepped) → R s (step.made_due moment s)
chain_due R h moment s = chain_made_if R h (next_due s.call) moment s refl

chain_over : (R : Stepped → Stepped → Type 0) → Chain R → (over : Bool) (row : Option ℕ) (moment : ℕ) (s : Stepped) → R s (step.committed_over over row moment s)
chain_over R h over None moment s = h.same s
chain_over R h over (Some row) moment s = chain_if R over s (step.committed row moment s) s (h.committed row moment s) (h.same s)

chain_accepted_if : (R : Stepped → Stepped → Type 0) → Chain R → (full : Option ℕ) (message : List ℕ) (moment : ℕ) (s : Stepped) → R s (step.accepted_if full message moment s)
chain_accepted_if R h (Some held) message moment s = h.same s
chain_accepted_if R h None message moment s =
    let row : Option ℕ = furthest s.call.buffer s.call.live in
    let t : Stepped = record s { call = with_message message row s.call } in
    h.joined s t (step.accepted message moment s) (h.sent message row s) (chain_over R h (pushed_over s.call.buffer (framed message) row) row moment t)

chain_sent_if : (R : Stepped → Stepped → Type 0) → Chain R → (refusal : Option Refusal) (message : List ℕ) (moment : ℕ) (s : Stepped) → R s (step.sent_if refusal message moment s)
chain_sent_if R h None message moment s =
    chain_if R (is_too_long s.call.chosen (length message)) s (step.ended_as ends.Request moment s) (step.accepted_if (full_with (length message) s.call) message moment s)
    (h.ended ends.Request moment s) (chain_accepted_if R h (full_with (length message) s.call) message moment s)
chain_sent_if R h (Some refusal) message moment s = h.same s

pub chain_sent : (R : Stepped → Stepped → Type 0) → Chain R → (message : List ℕ) (moment : ℕ) (s : Stepped) → R s (step.sent message moment s)
chain_sent R h message moment s = chain_sent_if R h (send_refusal s.call) message moment s

pub chain_closed_by : (R : Stepped → Stepped → Type 0) → Chain R → (why : EndCause) (moment : ℕ) (s : Stepped) → R s (step.closed_by why moment s)
chain_closed_by R h why moment s = chain_end_if R h (not (is_some s.call.ended)) why moment s

chain_timed : (R : Stepped → Stepped → Type 0) → Chain R → (deadline : Option ℕ) (moment : ℕ) (s : Stepped) → R s (step.timed_out_if deadline moment s)
chain_timed R h None moment s = h.same s
chain_timed R h (Some deadline) moment s = chain_if R (nat_le deadline moment) s (step.closed_by ends.Deadline moment s) s (chain_closed_by R h ends.Deadline moment s) (h.same s)

pub chain_timed_out : (R : Stepped → Stepped → Type 0) → Chain R → (moment : ℕ) (s : Stepped) → R s (step.timed_out moment s)
chain_timed_out R h moment s = chain_timed R h (deadline_at s.call) moment s
