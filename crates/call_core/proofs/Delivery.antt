-- What waits for an application is taken in order, and only news of the committed row adds to it.
use Rattle.std.proofs.Common.{◌≡◌, ℕ, Bool, true, false, not, ◌&&◌, ◌||◌, nat_le, nat_lt, length, if◌then◌else◌, Option, Some, None, is_some, List, [], ◌∷◌, ◌++◌, refl, sym, ap, subst, ◌∙◌, append_assoc, append-nil}
use Rattle.std.proofs.Math.Dec.{eqb-suc-zero}
use Rattle.grpc_base.specs.declared.event.EndCause.{EndCause}
use Rattle.grpc_base.specs.declared.event.EndCause.TheVariants as ends
use Rattle.grpc_base.specs.declared.event.Refusal.{Refusal}
use Rattle.grpc_base.specs.declared.event.Reply.{Reply}
use Rattle.grpc_base.specs.declared.event.Reply.TheVariants as reply
use Rattle.grpc_base.specs.declared.fields.Field.{Field}
use Rattle.grpc_base.specs.declared.plan.Chosen.{Chosen}
use Rattle.attempt_ledger.specs.declared.ledger.Ledger.{Ledger}
use Rattle.attempt_ledger.specs.declared.news.EndNews.{EndNews}
use Rattle.attempt_ledger.specs.declared.row.Placed.{Placed}
use Rattle.attempt_ledger.specs.declared.row.Row.{Row}
use Rattle.attempt_ledger.specs.declared.row.RowEnd.{RowEnd}
use Rattle.attempt_ledger.specs.Journals.{items_in}
use Rattle.grpc_frame.specs.Messages.{framed}
use Rattle.call_core.specs.declared.inbox.Inbox.{Inbox}
use Rattle.call_core.specs.declared.judge.Judged.{Judged}
use Rattle.call_core.specs.declared.live.LiveRow.{LiveRow}
use Rattle.call_core.specs.declared.state.CallState.{CallState}
use Rattle.call_core.specs.Laws.{came, head_items, message_items, waiting}
use Rattle.call_core.specs.Parts.{channel_end, count_of, end_at, end_reply, find_live, furthest, has_none, is_above, is_by_row, is_followed, is_tested, is_too_long, pushed_over, row_end, row_end_reply, stopped_attempts}
use Rattle.call_core.specs.Steps as step
use Rattle.call_core.specs.Steps.{Stepped, call_plan, deadline_at, full_with, is_committed_live, judged_of, left_live, next_due, send_refusal, settled, with_chosen, with_judged, with_message}

-- an end is one item
row_item : (o : Option RowEnd) → items_in (row_end_reply o) ≡ row_end_reply o ∷ []
row_item None = refl
row_item (Some end) = refl

either_item : (b : Bool) (x y : Reply) → items_in x ≡ x ∷ [] → items_in y ≡ y ∷ [] → items_in (if b then x else y) ≡ (if b then x else y) ∷ []
either_item true x y first second = first
either_item false x y first second = second

end_item : (rows : List Row) (committed : Option ℕ) (why : EndCause) → items_in (end_reply rows committed why) ≡ end_reply rows committed why ∷ []
end_item rows committed why =
    either_item (is_by_row why) (row_end_reply (end_at rows committed)) (channel_end why) (row_item (end_at rows committed)) refl

-- a call with these parts
abbrev with : CallState → Bool → Option (List Field) → List (List ℕ) → Option EndCause → CallState
with c taken head messages ended = record c { inbox = record { head = head; messages = messages; is_end_taken = taken }; ended = ended }

delivered : (ledger : Ledger) (c : CallState) (taken : Bool) (head : Option (List Field)) (messages : List (List ℕ)) (ended : Option EndCause) → waiting ledger (with c taken head messages ended) ≡ items_in (step.take_reply ledger (with c taken head messages ended)) ++ waiting ledger (step.taken (with c taken head messages ended))
delivered ledger c true head messages ended = refl
delivered ledger c false (Some meta) messages ended = refl
delivered ledger c false None (m ∷ messages) ended = refl
delivered ledger c false None [] None = refl
delivered ledger c false None [] (Some why) = ap (λ (xs : List Reply). xs ++ []) (sym (end_item ledger.rows c.attempts.committed why))

pub delivery : (ledger : Ledger) (call : CallState) → waiting ledger call ≡ items_in (step.take_reply ledger call) ++ waiting ledger (step.taken call)
delivery ledger call = delivered ledger call call.inbox.is_end_taken call.inbox.head call.inbox.messages call.ended

-- nothing waits exactly where a take answers NotYet
waits_parts : (ledger : Ledger) (c : CallState) (taken : Bool) (head : Option (List Field)) (messages : List (List ℕ)) (ended : Option EndCause) → step.can_take (with c taken head messages ended) ≡ false → step.take_reply ledger (with c taken head messages ended) ≡ reply.NotYet
waits_parts ledger c true head messages ended e = absurd (cc)
waits_parts ledger c false (Some meta) messages ended e = absurd (cc)
waits_parts ledger c false None (m ∷ messages) ended e =
    let no : true ≡ false = subst (λ (b : Bool). (not b || is_some ended) ≡ false) (eqb-suc-zero (length messages)) e in absurd (cc)
waits_parts ledger c false None [] (Some why) e = absurd (cc)
waits_parts ledger c false None [] None e = refl

pub not_yet : (ledger : Ledger) (call : CallState) → step.can_take call ≡ false → step.take_reply ledger call ≡ reply.NotYet
not_yet ledger call e = waits_parts ledger call call.inbox.is_end_taken call.inbox.head call.inbox.messages call.ended e

-- a message comes after what came before
more_messages : (ms : List (List ℕ)) (m : List ℕ) → message_items (ms ++ m ∷ []) ≡ message_items ms ++ reply.Message m ∷ []
more_messages [] m = refl
more_messages (x ∷ ms) m = ap (λ (xs : List Reply). reply.Message x ∷ xs) (more_messages ms m)

came_message : (octets : List ℕ) (call : CallState) (b : Bool) → came (if b then record call { inbox = record call.inbox { messages = call.inbox.messages ++ octets ∷ [] } } else call) ≡ came call ++ (if b then reply.Message octets ∷ [] else [])
came_message octets call true =
    ap (λ (xs : List Reply). head_items call.inbox.head ++ xs) (more_messages call.inbox.messages octets)
    ∙ sym (append_assoc (head_items call.inbox.head) (message_items call.inbox.messages) (reply.Message octets ∷ []))
came_message octets call false = sym (append-nil (came call))

pub received_after : (row : ℕ) (octets : List ℕ) (call : CallState) → came (step.received_message row octets call) ≡ came call ++ (if is_committed_live row call then reply.Message octets ∷ [] else [])
received_after row octets call = came_message octets call (is_committed_live row call)

-- all else leaves the inbox as it is
same_if : (b : Bool) (x y : Stepped) (i : Inbox) → x.call.inbox ≡ i → y.call.inbox ≡ i → (if b then x else y).call.inbox ≡ i
same_if true x y i first second = first
same_if false x y i first second = second

same_end_if : (ends : Bool) (why : EndCause) (moment : ℕ) (s : Stepped) → (step.ended_if ends why moment s).call.inbox ≡ s.call.inbox
same_end_if true why moment s = refl
same_end_if false why moment s = refl

pub same_configured : (chosen : Chosen) (moment : ℕ) (s : Stepped) → (step.configured chosen moment s).call.inbox ≡ s.call.inbox
same_configured chosen moment s =
    same_if (is_some s.call.ended || is_some s.call.chosen) s (step.ended_if (is_too_long (Some chosen) s.call.longest) ends.Request moment (with_chosen chosen moment s)) s.call.inbox refl
    (same_end_if (is_too_long (Some chosen) s.call.longest) ends.Request moment (with_chosen chosen moment s))

same_place_found : (found : Option LiveRow) (at : Placed) (s : Stepped) → (step.placed_if_live found at s).call.inbox ≡ s.call.inbox
same_place_found None at s = refl
same_place_found (Some row) at s = same_if (is_some row.link) s (step.placed_row_live row at s) s.call.inbox refl refl

pub same_placed : (row : ℕ) (at : Placed) (s : Stepped) → (step.placed_at row at s).call.inbox ≡ s.call.inbox
same_placed row at s = same_place_found (find_live row s.call.live) at s

same_closed_if : (closes : Bool) (place moment : ℕ) (s : Stepped) → (step.closed_if closes place moment s).call.inbox ≡ s.call.inbox
same_closed_if true place moment s = refl
same_closed_if false place moment s = refl

same_counted : (row : LiveRow) (reported : EndNews) (moment word : ℕ) (s : Stepped) → (step.counted row reported moment word s).call.inbox ≡ s.call.inbox
same_counted row reported moment word s =
    let end : RowEnd = row_end reported s.ledger.entry moment (count_of s.tokens) in
    let after : Judged = judged_of row end word s.call s.tokens in
    same_if (is_some s.call.attempts.committed) (step.ended_as ends.Row moment (step.row_ended row.place end s)) (step.counted_free row end moment word s) s.call.inbox refl
    (same_closed_if after.closes row.place moment (with_judged row end after s))

same_found : (found : Option LiveRow) (reported : EndNews) (moment word : ℕ) (s : Stepped) → (step.ended_if_live found reported moment word s).call.inbox ≡ s.call.inbox
same_found None reported moment word s = refl
same_found (Some row) reported moment word s =
    same_if (is_followed s.call.attempts reported.cause reported.unseen) (step.followed row reported moment (left_live row.place s)) (step.counted row reported moment word (settled reported (left_live row.place s))) s.call.inbox refl
    (same_counted row reported moment word (settled reported (left_live row.place s)))

pub same_ended_at : (row : ℕ) (reported : EndNews) (moment word : ℕ) (s : Stepped) → (step.ended_at row reported moment word s).call.inbox ≡ s.call.inbox
same_ended_at row reported moment word s = same_found (find_live row s.call.live) reported moment word s

pub same_too_large : (row moment : ℕ) (s : Stepped) → (step.received_too_large row moment s).call.inbox ≡ s.call.inbox
same_too_large row moment s = same_end_if (is_committed_live row s.call) ends.Response moment s

same_by_last : (last : Option ℕ) (moment : ℕ) (s : Stepped) → (step.ended_by_last last moment s).call.inbox ≡ s.call.inbox
same_by_last None moment s = refl
same_by_last (Some last) moment s = same_if (has_none s.call.live) (step.ended_by_row last moment s) s s.call.inbox refl refl

same_made_if : (due : Option ℕ) (moment : ℕ) (s : Stepped) → (step.made_if due moment s).call.inbox ≡ s.call.inbox
same_made_if None moment s = refl
same_made_if (Some due) moment s =
    same_if (nat_lt moment due) s (step.due_at moment due s) s.call.inbox refl
    (same_if (is_tested (call_plan s.call) s.call.attempts && not (is_above s.tokens)) (step.refused_due moment s) (step.made due s) s.call.inbox
    (same_by_last s.call.attempts.last moment (step.with_attempts (stopped_attempts s.call.attempts) s)) refl)

pub same_due : (moment : ℕ) (s : Stepped) → (step.made_due moment s).call.inbox ≡ s.call.inbox
same_due moment s = same_made_if (next_due s.call) moment s

same_over : (over : Bool) (row : Option ℕ) (moment : ℕ) (s : Stepped) → (step.committed_over over row moment s).call.inbox ≡ s.call.inbox
same_over over None moment s = refl
same_over over (Some row) moment s = same_if over (step.committed row moment s) s s.call.inbox refl refl

same_accepted_if : (full : Option ℕ) (message : List ℕ) (moment : ℕ) (s : Stepped) → (step.accepted_if full message moment s).call.inbox ≡ s.call.inbox
same_accepted_if (Some held) message moment s = refl
same_accepted_if None message moment s =
    let row : Option ℕ = furthest s.call.buffer s.call.live in
    same_over (pushed_over s.call.buffer (framed message) row) row moment (record s { call = with_message message row s.call })

same_sent_if : (refusal : Option Refusal) (message : List ℕ) (moment : ℕ) (s : Stepped) → (step.sent_if refusal message moment s).call.inbox ≡ s.call.inbox
same_sent_if None message moment s =
    same_if (is_too_long s.call.chosen (length message)) (step.ended_as ends.Request moment s) (step.accepted_if (full_with (length message) s.call) message moment s) s.call.inbox refl
    (same_accepted_if (full_with (length message) s.call) message moment s)
same_sent_if (Some refusal) message moment s = refl

pub same_sent : (message : List ℕ) (moment : ℕ) (s : Stepped) → (step.sent message moment s).call.inbox ≡ s.call.inbox
same_sent message moment s = same_sent_if (send_refusal s.call) message moment s

pub same_closed : (why : EndCause) (moment : ℕ) (s : Stepped) → (step.closed_by why moment s).call.inbox ≡ s.call.inbox
same_closed why moment s = same_end_if (not (is_some s.call.ended)) why moment s

same_timed : (deadline : Option ℕ) (moment : ℕ) (s : Stepped) → (step.timed_out_if deadline moment s).call.inbox ≡ s.call.inbox
same_timed None moment s = refl
same_timed (Some deadline) moment s = same_if (nat_le deadline moment) (step.closed_by ends.Deadline moment s) s s.call.inbox (same_closed ends.Deadline moment s) refl

pub same_timed_out : (moment : ℕ) (s : Stepped) → (step.timed_out moment s).call.inbox ≡ s.call.inbox
same_timed_out moment s = same_timed (deadline_at s.call) moment s
