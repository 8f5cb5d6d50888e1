-- Deadlines and limits end a call, a committed call receives one row, and an ended row holds its tokens.
use Rattle.std.proofs.Common.{◌≡◌, ◌≤◌, ◌<◌, ℕ, Bool, true, false, not, ◌&&◌, ◌||◌, length, if◌then◌else◌, Option, Some, None, is_some, List, [], ◌∷◌, ◌++◌, refl, sym, ap, ◌∙◌}
use Rattle.std.proofs.lemmas.Bool.{le-leb, lt-leb, lt-ltb}
use Rattle.grpc_base.specs.declared.event.EndCause.{EndCause}
use Rattle.grpc_base.specs.declared.event.EndCause.TheVariants as ends
use Rattle.grpc_base.specs.declared.event.Refusal.{Refusal}
use Rattle.grpc_base.specs.declared.event.Reply.TheVariants as reply
use Rattle.grpc_base.specs.declared.fields.Field.{Field}
use Rattle.grpc_base.specs.declared.plan.Chosen.{Chosen}
use Rattle.attempt_ledger.specs.declared.news.News.{News}
use Rattle.attempt_ledger.specs.declared.news.News.TheVariants as news
use Rattle.attempt_ledger.specs.declared.row.Placed.{Placed}
use Rattle.call_core.specs.declared.live.LiveRow.{LiveRow}
use Rattle.call_core.specs.declared.state.CallState.{CallState}
use Rattle.call_core.specs.Laws.{AllAt, IsKept, came, message_items}
use Rattle.call_core.specs.Parts.{committed_buffer, find_live, is_too_long, names}
use Rattle.call_core.specs.Steps as step
use Rattle.call_core.specs.Steps.{Stepped, deadline_at, is_committed_live, send_refusal, with_chosen}
use Rattle.call_core.proofs.Finding.{found_place}
use Rattle.call_core.proofs.Keeping.{found_at}

-- the deadline
pub deadline_ends : (deadline moment : ℕ) (s : Stepped) → s.call.ended ≡ None → deadline_at s.call ≡ Some deadline → deadline ≤ moment → (step.timed_out moment s).call.ended ≡ Some ends.Deadline
deadline_ends deadline moment s live e passed =
    ap (λ (o : Option ℕ). (step.timed_out_if o moment s).call.ended) e
    ∙ ap (λ (b : Bool). (if b then step.closed_by ends.Deadline moment s else s).call.ended) (le-leb deadline moment passed)
    ∙ ap (λ (o : Option EndCause). (step.ended_if (not (is_some o)) ends.Deadline moment s).call.ended) live

pub deadline_waits : (deadline moment : ℕ) (s : Stepped) → deadline_at s.call ≡ Some deadline → moment < deadline → step.timed_out moment s ≡ s
deadline_waits deadline moment s e early =
    ap (λ (o : Option ℕ). step.timed_out_if o moment s) e
    ∙ ap (λ (b : Bool). if b then step.closed_by ends.Deadline moment s else s) (lt-leb deadline moment early)

pub deadline_none : (moment : ℕ) (s : Stepped) → deadline_at s.call ≡ None → step.timed_out moment s ≡ s
deadline_none moment s e = ap (λ (o : Option ℕ). step.timed_out_if o moment s) e

-- the limit of what is sent
pub send_ends : (chosen : Chosen) (message : List ℕ) (moment : ℕ) (s : Stepped) → send_refusal s.call ≡ None → s.call.chosen ≡ Some chosen → chosen.request < length message → (step.sent message moment s).call.ended ≡ Some ends.Request
send_ends chosen message moment s free e long =
    ap (λ (o : Option Refusal). (step.sent_if o message moment s).call.ended) free
    ∙ ap (λ (b : Bool). (if b then step.ended_as ends.Request moment s else step.accepted_if (step.full_with (length message) s.call) message moment s).call.ended)
    (ap (λ (o : Option Chosen). is_too_long o (length message)) e ∙ lt-ltb chosen.request (length message) long)

configured_free : (chosen : Chosen) (moment : ℕ) (s : Stepped) → s.call.ended ≡ None → s.call.chosen ≡ None → step.configured chosen moment s ≡ step.ended_if (is_too_long (Some chosen) s.call.longest) ends.Request moment (with_chosen chosen moment s)
configured_free chosen moment s live fresh =
    ap (λ (o : Option EndCause). if is_some o || is_some s.call.chosen then s else step.ended_if (is_too_long (Some chosen) s.call.longest) ends.Request moment (with_chosen chosen moment s)) live
    ∙ ap (λ (o : Option Chosen). if is_some o then s else step.ended_if (is_too_long (Some chosen) s.call.longest) ends.Request moment (with_chosen chosen moment s)) fresh

pub late_ends : (chosen : Chosen) (moment : ℕ) (s : Stepped) → s.call.ended ≡ None → s.call.chosen ≡ None → chosen.request < s.call.longest → (step.configured chosen moment s).call.ended ≡ Some ends.Request
late_ends chosen moment s live fresh long =
    ap (λ (t : Stepped). t.call.ended) (configured_free chosen moment s live fresh)
    ∙ ap (λ (b : Bool). (step.ended_if b ends.Request moment (with_chosen chosen moment s)).call.ended) (lt-ltb chosen.request s.call.longest long)

-- news and placings of a committed call
not_found_by : (q place : ℕ) (live : List LiveRow) (o : Option LiveRow) → find_live q live ≡ o → AllAt place live → (q ≡ place → ⊥) → o ≡ None
not_found_by q place live None e all off = refl
not_found_by q place live (Some row) e all off = absurd (off (sym (found_place q live row e) ∙ found_at place q live row all e))

not_found : (q place : ℕ) (live : List LiveRow) → AllAt place live → (q ≡ place → ⊥) → find_live q live ≡ None
not_found q place live all off = not_found_by q place live (find_live q live) refl all off

off_live : (q place : ℕ) (s : Stepped) → IsKept s.call → s.call.attempts.committed ≡ Some place → (q ≡ place → ⊥) → find_live q s.call.live ≡ None
off_live q place s kept c off = not_found q place s.call.live (kept.committed place c).live off

pub other_placed : (row place : ℕ) (at : Placed) (s : Stepped) → IsKept s.call → s.call.attempts.committed ≡ Some place → (row ≡ place → ⊥) → step.placed_at row at s ≡ s
other_placed row place at s kept c off = ap (λ (o : Option LiveRow). step.placed_if_live o at s) (off_live row place s kept c off)

other_message : (row : ℕ) (octets : List ℕ) (call : CallState) (found : Option LiveRow) (b : Bool) → found ≡ None → (if b && is_some found then record call { inbox = record call.inbox { messages = call.inbox.messages ++ octets ∷ [] } } else call) ≡ call
other_message row octets call found true e = ap (λ (o : Option LiveRow). if is_some o then record call { inbox = record call.inbox { messages = call.inbox.messages ++ octets ∷ [] } } else call) e
other_message row octets call found false e = refl

other_large : (moment : ℕ) (s : Stepped) (found : Option LiveRow) (b : Bool) → found ≡ None → step.ended_if (b && is_some found) ends.Response moment s ≡ s
other_large moment s found true e = ap (λ (o : Option LiveRow). step.ended_if (is_some o) ends.Response moment s) e
other_large moment s found false e = refl

pub other_news : (row place : ℕ) (reported : News) (moment word : ℕ) (s : Stepped) → IsKept s.call → s.call.attempts.committed ≡ Some place → (row ≡ place → ⊥) → step.received_news row reported moment word s ≡ s
other_news row place (news.Head tag meta seen) moment word s kept c off =
    ap (λ (o : Option LiveRow). if is_some o then step.with_head meta (step.commit_by_head row moment s) else s) (off_live row place s kept c off)
other_news row place (news.Message tag octets seen) moment word s kept c off =
    ap (λ (x : CallState). record s { call = x }) (other_message row octets s.call (find_live row s.call.live) (names row s.call.attempts.committed) (off_live row place s kept c off))
other_news row place (news.TooLarge tag seen) moment word s kept c off =
    other_large moment s (find_live row s.call.live) (names row s.call.attempts.committed) (off_live row place s kept c off)
other_news row place (news.Ended tag end) moment word s kept c off = ap (λ (o : Option LiveRow). step.ended_if_live o end moment word s) (off_live row place s kept c off)
other_news row place news.Ready moment word s kept c off = refl
other_news row place news.Retiring moment word s kept c off = refl
other_news row place (news.Broken code) moment word s kept c off = refl

-- a head
head_by : (row : ℕ) (meta : List Field) (moment : ℕ) (s : Stepped) (b : Bool) → came (step.with_head meta (if b then s else step.committed row moment (record s { call = record s.call { buffer = committed_buffer row s.call.buffer } }))).call ≡ reply.Head meta ∷ message_items s.call.inbox.messages
head_by row meta moment s true = refl
head_by row meta moment s false = refl

pub head_first : (row : ℕ) (live : LiveRow) (meta : List Field) (moment : ℕ) (s : Stepped) → find_live row s.call.live ≡ Some live → came (step.received_head row meta moment s).call ≡ reply.Head meta ∷ message_items s.call.inbox.messages
head_first row live meta moment s e =
    ap (λ (o : Option LiveRow). came (if is_some o then step.with_head meta (step.commit_by_head row moment s) else s).call) e
    ∙ head_by row meta moment s (is_some s.call.attempts.committed)

committed_by : (row : ℕ) (o : Option ℕ) (meta : List Field) (moment : ℕ) (s : Stepped) → s.call.attempts.committed ≡ o → ((p : ℕ) → o ≡ Some p → p ≡ row) → (step.with_head meta (if is_some o then s else step.committed row moment (record s { call = record s.call { buffer = committed_buffer row s.call.buffer } }))).call.attempts.committed ≡ Some row
committed_by row None meta moment s e sole = refl
committed_by row (Some p) meta moment s e sole = e ∙ ap (λ (k : ℕ). Some k) (sole p refl)

pub head_commits : (row : ℕ) (live : LiveRow) (meta : List Field) (moment : ℕ) (s : Stepped) → IsKept s.call → find_live row s.call.live ≡ Some live → (step.received_head row meta moment s).call.attempts.committed ≡ Some row
head_commits row live meta moment s kept e =
    ap (λ (o : Option LiveRow). (if is_some o then step.with_head meta (step.commit_by_head row moment s) else s).call.attempts.committed) e
    ∙ committed_by row s.call.attempts.committed meta moment s refl (λ p c. sym (found_at p row s.call.live live (kept.committed p c).live e) ∙ found_place row s.call.live live e)
