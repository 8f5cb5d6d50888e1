-- What holds of each whole thing that is done to a call, holds of every call of it. `R` sees the moment at which it is done; `C` is
-- what is known of a configuration, and `T` what is known of an end that is reported of a live row.
use Rattle.std.proofs.Common.{◌≡◌, ◌≤◌, ℕ, Bool, true, false, not, ◌&&◌, ◌||◌, nat_le, nat_lt, length, if◌then◌else◌, Option, Some, None, is_some, List, refl}
use Rattle.std.proofs.lemmas.Bool.{ltb-false}
use Rattle.grpc_base.specs.declared.event.EndCause.{EndCause}
use Rattle.grpc_base.specs.declared.event.EndCause.TheVariants as ends
use Rattle.grpc_base.specs.declared.event.Refusal.{Refusal}
use Rattle.grpc_base.specs.declared.event.Refusal.TheVariants as refusals
use Rattle.grpc_base.specs.declared.fields.Field.{Field}
use Rattle.grpc_base.specs.declared.plan.Chosen.{Chosen}
use Rattle.attempt_ledger.specs.declared.news.EndNews.{EndNews}
use Rattle.attempt_ledger.specs.declared.news.News.{News}
use Rattle.attempt_ledger.specs.declared.news.News.TheVariants as news
use Rattle.attempt_ledger.specs.declared.row.Placed.{Placed}
use Rattle.call_core.specs.declared.live.LiveRow.{LiveRow}
use Rattle.call_core.specs.Parts.{find_live, is_above, is_by_row, is_tested, is_too_long}
use Rattle.call_core.specs.Steps as step
use Rattle.call_core.specs.Steps.{Stepped, call_plan, deadline_at, full_with, is_committed_live, next_due, send_refusal, with_chosen}

pub record Moves (C : Chosen → Type 0) (T : Stepped → LiveRow → EndNews → Type 0) (R : ℕ → Stepped → Stepped → Type 0) : Type 0 where
  pub same : (moment : ℕ) (s : Stepped) → R moment s s
  pub configured : (chosen : Chosen) (moment : ℕ) (s : Stepped) → C chosen → s.call.ended ≡ None → s.call.chosen ≡ None → R moment s (with_chosen chosen moment s)
  pub over_limit : (chosen : Chosen) (moment : ℕ) (s : Stepped) → C chosen → s.call.ended ≡ None → s.call.chosen ≡ None → R moment s (step.ended_as ends.Request moment (with_chosen chosen moment s))
  pub ended : (why : EndCause) (moment : ℕ) (s : Stepped) → is_by_row why ≡ false → s.call.ended ≡ None → R moment s (step.ended_as why moment s)
  pub too_large : (row moment : ℕ) (s : Stepped) → is_committed_live row s.call ≡ true → R moment s (step.ended_as ends.Response moment s)
  pub head : (place : ℕ) (row : LiveRow) (meta : List Field) (moment : ℕ) (s : Stepped) → find_live place s.call.live ≡ Some row → R moment s (step.with_head meta (step.commit_by_head place moment s))
  pub message : (row : ℕ) (octets : List ℕ) (moment : ℕ) (s : Stepped) → R moment s (record s { call = step.received_message row octets s.call })
  pub row_ended : (place : ℕ) (row : LiveRow) (reported : EndNews) (moment word : ℕ) (s : Stepped) → find_live place s.call.live ≡ Some row → T s row reported → R moment s (step.live_ended row reported moment word s)
  pub placed : (place : ℕ) (row : LiveRow) (at : Placed) (s : Stepped) → at.entry ≡ s.ledger.entry → find_live place s.call.live ≡ Some row → row.link ≡ None → R at.moment s (step.placed_row_live row at s)
  pub refused : (due moment : ℕ) (s : Stepped) → next_due s.call ≡ Some due → due ≤ moment → is_tested (call_plan s.call) s.call.attempts ≡ true → R moment s (step.refused_due moment s)
  pub made : (due moment : ℕ) (s : Stepped) → next_due s.call ≡ Some due → due ≤ moment → R moment s (step.made due s)
  pub accepted : (message : List ℕ) (moment : ℕ) (s : Stepped) → s.call.ended ≡ None → full_with (length message) s.call ≡ None → R moment s (step.accepted message moment s)

-- the configuration
configured_if : (C : Chosen → Type 0) (T : Stepped → LiveRow → EndNews → Type 0) (R : ℕ → Stepped → Stepped → Type 0) → Moves C T R → (chosen : Chosen) (moment : ℕ) (s : Stepped) (over : Bool) → C chosen → s.call.ended ≡ None → s.call.chosen ≡ None → R moment s (step.ended_if over ends.Request moment (with_chosen chosen moment s))
configured_if C T R h chosen moment s true c e f = h.over_limit chosen moment s c e f
configured_if C T R h chosen moment s false c e f = h.configured chosen moment s c e f

configured_by : (C : Chosen → Type 0) (T : Stepped → LiveRow → EndNews → Type 0) (R : ℕ → Stepped → Stepped → Type 0) → Moves C T R → (chosen : Chosen) (moment : ℕ) (s : Stepped) (ended : Option EndCause) (before : Option Chosen) → C chosen → s.call.ended ≡ ended → s.call.chosen ≡ before → R moment s (if is_some ended || is_some before then s else step.ended_if (is_too_long (Some chosen) s.call.longest) ends.Request moment (with_chosen chosen moment s))
configured_by C T R h chosen moment s (Some why) before c e f = h.same moment s
configured_by C T R h chosen moment s None (Some old) c e f = h.same moment s
configured_by C T R h chosen moment s None None c e f = configured_if C T R h chosen moment s (is_too_long (Some chosen) s.call.longest) c e f

pub moves_configured : (C : Chosen → Type 0) (T : Stepped → LiveRow → EndNews → Type 0) (R : ℕ → Stepped → Stepped → Type 0) → Moves C T R → (chosen : Chosen) (moment : ℕ) (s : Stepped) → C chosen → R moment s (step.configured chosen moment s)
moves_configured C T R h chosen moment s c = configured_by C T R h chosen moment s s.call.ended s.call.chosen c refl refl

-- what the application sends
accepted_if : (C : Chosen → Type 0) (T : Stepped → LiveRow → EndNews → Type 0) (R : ℕ → Stepped → Stepped → Type 0) → Moves C T R → (message : List ℕ) (moment : ℕ) (s : Stepped) (full : Option ℕ) → full_with (length message) s.call ≡ full → s.call.ended ≡ None → R moment s (step.accepted_if full message moment s)
accepted_if C T R h message moment s None f e = h.accepted message moment s e f
accepted_if C T R h message moment s (Some held) f e = h.same moment s

sent_by : (C : Chosen → Type 0) (T : Stepped → LiveRow → EndNews → Type 0) (R : ℕ → Stepped → Stepped → Type 0) → Moves C T R → (message : List ℕ) (moment : ℕ) (s : Stepped) (long : Bool) → s.call.ended ≡ None → R moment s (if long then step.ended_as ends.Request moment s else step.accepted_if (full_with (length message) s.call) message moment s)
sent_by C T R h message moment s true e = h.ended ends.Request moment s refl e
sent_by C T R h message moment s false e = accepted_if C T R h message moment s (full_with (length message) s.call) refl e

refusal_ended : (ended : Option EndCause) (finished : Bool) → (if is_some ended then Some refusals.CallEnded else if finished then Some refusals.AfterFinish else None) ≡ None → ended ≡ None
refusal_ended None finished e = refl
refusal_ended (Some why) finished e = absurd (cc)

sent_if : (C : Chosen → Type 0) (T : Stepped → LiveRow → EndNews → Type 0) (R : ℕ → Stepped → Stepped → Type 0) → Moves C T R → (message : List ℕ) (moment : ℕ) (s : Stepped) (refusal : Option Refusal) → send_refusal s.call ≡ refusal → R moment s (step.sent_if refusal message moment s)
sent_if C T R h message moment s (Some refusal) e = h.same moment s
sent_if C T R h message moment s None e =
    sent_by C T R h message moment s (is_too_long s.call.chosen (length message)) (refusal_ended s.call.ended s.call.is_finished e)

pub moves_sent : (C : Chosen → Type 0) (T : Stepped → LiveRow → EndNews → Type 0) (R : ℕ → Stepped → Stepped → Type 0) → Moves C T R → (message : List ℕ) (moment : ℕ) (s : Stepped) → R moment s (step.sent message moment s)
moves_sent C T R h message moment s = sent_if C T R h message moment s (send_refusal s.call) refl

-- the ends by the channel
closed_as : (C : Chosen → Type 0) (T : Stepped → LiveRow → EndNews → Type 0) (R : ℕ → Stepped → Stepped → Type 0) → Moves C T R → (why : EndCause) (moment : ℕ) (s : Stepped) (ended : Option EndCause) → s.call.ended ≡ ended → is_by_row why ≡ false → R moment s (step.ended_if (not (is_some ended)) why moment s)
closed_as C T R h why moment s None e by = h.ended why moment s by e
closed_as C T R h why moment s (Some x) e by = h.same moment s

pub moves_closed_by : (C : Chosen → Type 0) (T : Stepped → LiveRow → EndNews → Type 0) (R : ℕ → Stepped → Stepped → Type 0) → Moves C T R → (why : EndCause) (moment : ℕ) (s : Stepped) → is_by_row why ≡ false → R moment s (step.closed_by why moment s)
moves_closed_by C T R h why moment s by = closed_as C T R h why moment s s.call.ended refl by

timed_late : (C : Chosen → Type 0) (T : Stepped → LiveRow → EndNews → Type 0) (R : ℕ → Stepped → Stepped → Type 0) → Moves C T R → (moment : ℕ) (s : Stepped) (late : Bool) → R moment s (if late then step.closed_by ends.Deadline moment s else s)
timed_late C T R h moment s true = moves_closed_by C T R h ends.Deadline moment s refl
timed_late C T R h moment s false = h.same moment s

timed : (C : Chosen → Type 0) (T : Stepped → LiveRow → EndNews → Type 0) (R : ℕ → Stepped → Stepped → Type 0) → Moves C T R → (deadline : Option ℕ) (moment : ℕ) (s : Stepped) → R moment s (step.timed_out_if deadline moment s)
timed C T R h None moment s = h.same moment s
timed C T R h (Some deadline) moment s = timed_late C T R h moment s (nat_le deadline moment)

pub moves_timed_out : (C : Chosen → Type 0) (T : Stepped → LiveRow → EndNews → Type 0) (R : ℕ → Stepped → Stepped → Type 0) → Moves C T R → (moment : ℕ) (s : Stepped) → R moment s (step.timed_out moment s)
moves_timed_out C T R h moment s = timed C T R h (deadline_at s.call) moment s

-- a placing
placed_free : (C : Chosen → Type 0) (T : Stepped → LiveRow → EndNews → Type 0) (R : ℕ → Stepped → Stepped → Type 0) → Moves C T R → (place : ℕ) (row : LiveRow) (at : Placed) (s : Stepped) (link : Option ℕ) → row.link ≡ link → at.entry ≡ s.ledger.entry → find_live place s.call.live ≡ Some row → R at.moment s (if is_some link then s else step.placed_row_live row at s)
placed_free C T R h place row at s (Some l) free e found = h.same at.moment s
placed_free C T R h place row at s None free e found = h.placed place row at s e found free

placed_found : (C : Chosen → Type 0) (T : Stepped → LiveRow → EndNews → Type 0) (R : ℕ → Stepped → Stepped → Type 0) → Moves C T R → (place : ℕ) (found : Option LiveRow) (at : Placed) (s : Stepped) → at.entry ≡ s.ledger.entry → find_live place s.call.live ≡ found → R at.moment s (step.placed_if_live found at s)
placed_found C T R h place None at s e f = h.same at.moment s
placed_found C T R h place (Some row) at s e f = placed_free C T R h place row at s row.link refl e f

pub moves_placed : (C : Chosen → Type 0) (T : Stepped → LiveRow → EndNews → Type 0) (R : ℕ → Stepped → Stepped → Type 0) → Moves C T R → (row : ℕ) (at : Placed) (s : Stepped) → at.entry ≡ s.ledger.entry → R at.moment s (step.placed_at row at s)
moves_placed C T R h row at s e = placed_found C T R h row (find_live row s.call.live) at s e refl

-- news
ended_found : (C : Chosen → Type 0) (T : Stepped → LiveRow → EndNews → Type 0) (R : ℕ → Stepped → Stepped → Type 0) → Moves C T R → (place : ℕ) (found : Option LiveRow) (reported : EndNews) (moment word : ℕ) (s : Stepped) → find_live place s.call.live ≡ found → ((row : LiveRow) → find_live place s.call.live ≡ Some row → T s row reported) → R moment s (step.ended_if_live found reported moment word s)
ended_found C T R h place None reported moment word s e known = h.same moment s
ended_found C T R h place (Some row) reported moment word s e known = h.row_ended place row reported moment word s e (known row e)

pub moves_ended_at : (C : Chosen → Type 0) (T : Stepped → LiveRow → EndNews → Type 0) (R : ℕ → Stepped → Stepped → Type 0) → Moves C T R → (row : ℕ) (reported : EndNews) (moment word : ℕ) (s : Stepped) → ((live : LiveRow) → find_live row s.call.live ≡ Some live → T s live reported) → R moment s (step.ended_at row reported moment word s)
moves_ended_at C T R h row reported moment word s known = ended_found C T R h row (find_live row s.call.live) reported moment word s refl known

head_found : (C : Chosen → Type 0) (T : Stepped → LiveRow → EndNews → Type 0) (R : ℕ → Stepped → Stepped → Type 0) → Moves C T R → (place : ℕ) (found : Option LiveRow) (meta : List Field) (moment : ℕ) (s : Stepped) → find_live place s.call.live ≡ found → R moment s (if is_some found then step.with_head meta (step.commit_by_head place moment s) else s)
head_found C T R h place None meta moment s e = h.same moment s
head_found C T R h place (Some row) meta moment s e = h.head place row meta moment s e

large_if : (C : Chosen → Type 0) (T : Stepped → LiveRow → EndNews → Type 0) (R : ℕ → Stepped → Stepped → Type 0) → Moves C T R → (row moment : ℕ) (s : Stepped) (b : Bool) → is_committed_live row s.call ≡ b → R moment s (step.ended_if b ends.Response moment s)
large_if C T R h row moment s true e = h.too_large row moment s e
large_if C T R h row moment s false e = h.same moment s

pub moves_news : (C : Chosen → Type 0) (T : Stepped → LiveRow → EndNews → Type 0) (R : ℕ → Stepped → Stepped → Type 0) → Moves C T R → (row : ℕ) (reported : News) (moment word : ℕ) (s : Stepped) → ((tag : ℕ) (end : EndNews) (live : LiveRow) → reported ≡ news.Ended tag end → find_live row s.call.live ≡ Some live → T s live end) → R moment s (step.received_news row reported moment word s)
moves_news C T R h row (news.Head tag meta seen) moment word s known = head_found C T R h row (find_live row s.call.live) meta moment s refl
moves_news C T R h row (news.Message tag octets seen) moment word s known = h.message row octets moment s
moves_news C T R h row (news.TooLarge tag seen) moment word s known = large_if C T R h row moment s (is_committed_live row s.call) refl
moves_news C T R h row (news.Ended tag end) moment word s known = moves_ended_at C T R h row end moment word s (λ live e. known tag end live refl e)
moves_news C T R h row news.Ready moment word s known = h.same moment s
moves_news C T R h row news.Retiring moment word s known = h.same moment s
moves_news C T R h row (news.Broken code) moment word s known = h.same moment s

-- the next attempt
due_if : (C : Chosen → Type 0) (T : Stepped → LiveRow → EndNews → Type 0) (R : ℕ → Stepped → Stepped → Type 0) → Moves C T R → (due moment : ℕ) (s : Stepped) (tested above : Bool) → is_tested (call_plan s.call) s.call.attempts ≡ tested → next_due s.call ≡ Some due → due ≤ moment → R moment s (if tested && not above then step.refused_due moment s else step.made due s)
due_if C T R h due moment s true false t e passed = h.refused due moment s e passed t
due_if C T R h due moment s true true t e passed = h.made due moment s e passed
due_if C T R h due moment s false above t e passed = h.made due moment s e passed

due_late : (C : Chosen → Type 0) (T : Stepped → LiveRow → EndNews → Type 0) (R : ℕ → Stepped → Stepped → Type 0) → Moves C T R → (due moment : ℕ) (s : Stepped) (early : Bool) → nat_lt moment due ≡ early → next_due s.call ≡ Some due → R moment s (if early then s else step.due_at moment due s)
due_late C T R h due moment s true lt e = h.same moment s
due_late C T R h due moment s false lt e =
    due_if C T R h due moment s (is_tested (call_plan s.call) s.call.attempts) (is_above s.tokens) refl e (ltb-false moment due lt)

due_by : (C : Chosen → Type 0) (T : Stepped → LiveRow → EndNews → Type 0) (R : ℕ → Stepped → Stepped → Type 0) → Moves C T R → (next : Option ℕ) (moment : ℕ) (s : Stepped) → next_due s.call ≡ next → R moment s (step.made_if next moment s)
due_by C T R h None moment s e = h.same moment s
due_by C T R h (Some due) moment s e = due_late C T R h due moment s (nat_lt moment due) refl e

pub moves_due : (C : Chosen → Type 0) (T : Stepped → LiveRow → EndNews → Type 0) (R : ℕ → Stepped → Stepped → Type 0) → Moves C T R → (moment : ℕ) (s : Stepped) → R moment s (step.made_due moment s)
moves_due C T R h moment s = due_by C T R h (next_due s.call) moment s refl
