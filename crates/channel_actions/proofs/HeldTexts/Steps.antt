-- What is done to a call that goes on leaves no more of its messages than it held; but for a Send, which adds one.
use Rattle.std.proofs.Common.{◌≡◌, ◌⊎◌, ◌∷◌, ◌++◌, ◌&&◌, ◌||◌, ◌∙◌, inl, inr, not, refl, subst, sym, Bool, true, false, List, [], Option, None, Some, Result, Ok, Err, ℕ, if◌then◌else◌, is_some, length, nat_le, nat_lt}
use Rattle.std.proofs.Math.Nat.{le_refl}
use Rattle.attempt_buffer.specs.Buffers.{Buffered, appended, push_answer}
use Rattle.attempt_buffer.specs.declared.buffer.PushFault.{PushFault}
use Rattle.attempt_buffer.specs.declared.buffer.Pushed.TheVariants as pushed
use Rattle.attempt_buffer.specs.declared.buffer.Pushed.{Pushed}
use Rattle.attempt_ledger.specs.declared.news.EndNews.{EndNews}
use Rattle.attempt_ledger.specs.declared.news.News.TheVariants as news
use Rattle.attempt_ledger.specs.declared.news.News.{News}
use Rattle.attempt_ledger.specs.declared.row.Placed.{Placed}
use Rattle.attempt_ledger.specs.declared.row.RowEnd.{RowEnd}
use Rattle.call_core.specs.Parts.{committed_buffer, count_of, find_live, first_of, furthest, has_none, is_above, is_followed, is_tested, is_too_long, names, pick_end, pushed_by, pushed_over, row_end, stopped_attempts}
use Rattle.call_core.specs.Steps as step
use Rattle.call_core.specs.Steps.{Stepped}
use Rattle.call_core.specs.declared.judge.Judged.{Judged}
use Rattle.call_core.specs.declared.live.LiveRow.{LiveRow}
use Rattle.call_core.specs.declared.state.CallState.{CallState}
use Rattle.channel_actions.proofs.HeldTexts.Trims.{IsBlank, IsTrim, IsTrimmed, trim_begun, trim_closed, trim_committed, trim_fed, trim_self, trim_to}
use Rattle.grpc_base.specs.Requests.{RequestSeen}
use Rattle.grpc_base.specs.declared.event.EndCause.TheVariants as ends
use Rattle.grpc_base.specs.declared.event.EndCause.{EndCause}
use Rattle.grpc_base.specs.declared.event.Refusal.{Refusal}
use Rattle.grpc_base.specs.declared.fields.Field.{Field}
use Rattle.grpc_base.specs.declared.plan.Chosen.{Chosen}
use Rattle.grpc_frame.specs.Messages.{framed}

abbrev pub Continues : CallState → CallState → Type 0
Continues old new = new.ended ≡ None → IsTrimmed old new

goes : (old new : CallState) → IsTrim old.buffer new.buffer → (new.ended ≡ None → old.ended ≡ None) → Continues old new
goes old new text back e = record { ended = back e; text = text }

self : (call : CallState) → Continues call call
self call = goes call call (trim_self call.buffer) (λ e. e)

-- it began; and it ended
pub begun : (number : ℕ) (request : RequestSeen) (moment : ℕ) → IsBlank (step.new_call number request moment)
begun number request moment = record { most = le_refl 0; whole = refl }

pub ended : (old : CallState) (why : EndCause) (moment : ℕ) (s : Stepped) → Continues old (step.ended_as why moment s).call
ended old why moment s e = absurd (let bad : Some why ≡ None = e in (cc))

ended_if : (old : CallState) (q : Bool) (why : EndCause) (moment : ℕ) (s : Stepped) → Continues old s.call → Continues old (step.ended_if q why moment s).call
ended_if old true why moment s h = ended old why moment s
ended_if old false why moment s h = h

pub closed : (why : EndCause) (moment : ℕ) (s : Stepped) → Continues s.call (step.closed_by why moment s).call
closed why moment s = ended_if s.call (not (is_some s.call.ended)) why moment s (self s.call)

by_time : (moment : ℕ) (s : Stepped) (q : Bool) → Continues s.call (if q then step.closed_by ends.Deadline moment s else s).call
by_time moment s true = closed ends.Deadline moment s
by_time moment s false = self s.call

timed_if : (o : Option ℕ) (moment : ℕ) (s : Stepped) → Continues s.call (step.timed_out_if o moment s).call
timed_if None moment s = self s.call
timed_if (Some deadline) moment s = by_time moment s (nat_le deadline moment)

pub timed_out : (moment : ℕ) (s : Stepped) → Continues s.call (step.timed_out moment s).call
timed_out moment s = timed_if (step.deadline_at s.call) moment s

-- its configuration
chosen_now : (chosen : Chosen) (moment : ℕ) (s : Stepped) → Continues s.call (step.with_chosen chosen moment s).call
chosen_now chosen moment s = goes s.call (step.with_chosen chosen moment s).call (trim_self s.call.buffer) (λ e. e)

configured_if : (q long : Bool) (chosen : Chosen) (moment : ℕ) (s : Stepped)
    → Continues s.call (if q then s else step.ended_if long ends.Request moment (step.with_chosen chosen moment s)).call
configured_if true long chosen moment s = self s.call
configured_if false long chosen moment s = ended_if s.call long ends.Request moment (step.with_chosen chosen moment s) (chosen_now chosen moment s)

pub configured : (chosen : Chosen) (moment : ℕ) (s : Stepped) → Continues s.call (step.configured chosen moment s).call
configured chosen moment s = configured_if (is_some s.call.ended || is_some s.call.chosen) (is_too_long (Some chosen) s.call.longest) chosen moment s

-- a row of it is placed
placed_live : (r : LiveRow) (at : Placed) (s : Stepped) (q : Bool) → Continues s.call (if q then s else step.placed_row_live r at s).call
placed_live r at s true = self s.call
placed_live r at s false =
    goes s.call (step.placed_row_live r at s).call (trim_begun r.place (names r.place s.call.attempts.committed) s.call.buffer) (λ e. e)

placed_by : (o : Option LiveRow) (at : Placed) (s : Stepped) → Continues s.call (step.placed_if_live o at s).call
placed_by None at s = self s.call
placed_by (Some r) at s = placed_live r at s (is_some r.link)

pub placed : (row : ℕ) (at : Placed) (s : Stepped) → Continues s.call (step.placed_at row at s).call
placed row at s = placed_by (find_live row s.call.live) at s

-- its next attempt is made
none_left : (last moment : ℕ) (s : Stepped) (old : CallState) (q : Bool) → Continues old s.call → Continues old (if q then step.ended_by_row last moment s else s).call
none_left last moment s old true h = ended old ends.Row moment (step.committed last moment s)
none_left last moment s old false h = h

last_by : (o : Option ℕ) (moment : ℕ) (s : Stepped) (old : CallState) → Continues old s.call → Continues old (step.ended_by_last o moment s).call
last_by None moment s old h = h
last_by (Some last) moment s old h = none_left last moment s old (has_none s.call.live) h

due_by : (q : Bool) (moment due : ℕ) (s : Stepped) → Continues s.call (if q then step.refused_due moment s else step.made due s).call
due_by true moment due s =
    last_by s.call.attempts.last moment (step.with_attempts (stopped_attempts s.call.attempts) s) s.call
    (goes s.call (step.with_attempts (stopped_attempts s.call.attempts) s).call (trim_self s.call.buffer) (λ e. e))
due_by false moment due s = goes s.call (step.made due s).call (trim_self s.call.buffer) (λ e. e)

made_by : (moment due : ℕ) (s : Stepped) (q : Bool) → Continues s.call (if q then s else step.due_at moment due s).call
made_by moment due s true = self s.call
made_by moment due s false = due_by (is_tested (step.call_plan s.call) s.call.attempts && not (is_above s.tokens)) moment due s

made_if : (o : Option ℕ) (moment : ℕ) (s : Stepped) → Continues s.call (step.made_if o moment s).call
made_if None moment s = self s.call
made_if (Some due) moment s = made_by moment due s (nat_lt moment due)

pub made : (moment : ℕ) (s : Stepped) → Continues s.call (step.made_due moment s).call
made moment s = made_if (step.next_due s.call) moment s

-- a row of it ended
closes_by : (q : Bool) (place moment : ℕ) (s : Stepped) (old : CallState) → Continues old s.call → Continues old (step.closed_if q place moment s).call
closes_by true place moment s old h = ended old ends.Row moment (step.committed place moment s)
closes_by false place moment s old h = h

module _ (row : LiveRow) (reported : EndNews) (moment word : ℕ) (s : Stepped) where
  abbrev left : Stepped
  left = step.settled reported (step.left_live row.place s)

  abbrev end : RowEnd
  end = row_end reported left.ledger.entry moment (count_of left.tokens)

  abbrev after : Judged
  after = step.judged_of row end word left.call left.tokens

  counted_by : (q : Bool) → Continues s.call (if q then step.ended_as ends.Row moment (step.row_ended row.place end left) else step.counted_free row end moment word left).call
  counted_by true = ended s.call ends.Row moment (step.row_ended row.place end left)
  counted_by false =
      closes_by after.closes row.place moment (step.with_judged row end after left) s.call
      (goes s.call (step.with_judged row end after left).call (trim_closed row.place s.call.buffer) (λ e. e))

  live_by : (q : Bool) → Continues s.call (if q then step.followed row reported moment (step.left_live row.place s) else step.counted row reported moment word left).call
  live_by true = goes s.call (step.followed row reported moment (step.left_live row.place s)).call (trim_closed row.place s.call.buffer) (λ e. e)
  live_by false = counted_by (is_some left.call.attempts.committed)

  live_ended : Continues s.call (step.live_ended row reported moment word s).call
  live_ended = live_by (is_followed s.call.attempts reported.cause reported.unseen)

ended_by : (o : Option LiveRow) (reported : EndNews) (moment word : ℕ) (s : Stepped) → Continues s.call (step.ended_if_live o reported moment word s).call
ended_by None reported moment word s = self s.call
ended_by (Some row) reported moment word s = live_ended row reported moment word s

pub failed : (row moment word : ℕ) (s : Stepped) → Continues s.call (step.pick_failed row moment word s).call
failed row moment word s = ended_by (find_live row s.call.live) pick_end moment word s

-- news of it
abbrev heading : ℕ → ℕ → Stepped → Stepped
heading row moment s = step.committed row moment (record s { call = record s.call { buffer = committed_buffer row s.call.buffer } })

commit_by : (row : ℕ) (meta : List Field) (moment : ℕ) (s : Stepped) (q : Bool) → Continues s.call (step.with_head meta (if q then s else heading row moment s)).call
commit_by row meta moment s true = goes s.call (step.with_head meta s).call (trim_self s.call.buffer) (λ e. e)
commit_by row meta moment s false = goes s.call (step.with_head meta (heading row moment s)).call (trim_committed row s.call.buffer) (λ e. e)

head_by : (row : ℕ) (meta : List Field) (moment : ℕ) (s : Stepped) (q : Bool) → Continues s.call (if q then step.with_head meta (step.commit_by_head row moment s) else s).call
head_by row meta moment s true = commit_by row meta moment s (is_some s.call.attempts.committed)
head_by row meta moment s false = self s.call

message_by : (octets : List ℕ) (call : CallState) (q : Bool)
    → Continues call (if q then record call { inbox = record call.inbox { messages = call.inbox.messages ++ octets ∷ [] } } else call)
message_by octets call true = goes call (record call { inbox = record call.inbox { messages = call.inbox.messages ++ octets ∷ [] } }) (trim_self call.buffer) (λ e. e)
message_by octets call false = self call

pub handled : (row : ℕ) (reported : News) (moment word : ℕ) (s : Stepped) → Continues s.call (step.received_news row reported moment word s).call
handled row (news.Head tag meta seen) moment word s = head_by row meta moment s (is_some (find_live row s.call.live))
handled row (news.Message tag octets seen) moment word s = message_by octets s.call (step.is_committed_live row s.call)
handled row (news.TooLarge tag seen) moment word s = ended_if s.call (step.is_committed_live row s.call) ends.Response moment s (self s.call)
handled row (news.Ended tag end) moment word s = ended_by (find_live row s.call.live) end moment word s
handled row news.Ready moment word s = self s.call
handled row news.Retiring moment word s = self s.call
handled row (news.Broken code) moment word s = self s.call

-- what is done beside
finished_by : (o : Option Refusal) (call : CallState) → Continues call (step.finished_if o call)
finished_by None call = goes call (step.finished_if None call) (trim_self call.buffer) (λ e. e)
finished_by (Some refusal) call = self call

pub finished : (call : CallState) → Continues call (step.finished call)
finished call = finished_by (step.send_refusal call) call

end_by : (o : Option EndCause) (old call : CallState) → Continues old call → Continues old (step.taken_end o call)
end_by None old call h = h
end_by (Some why) old call h = λ e. (let was : IsTrimmed old call = h e in record { ended = was.ended; text = was.text })

rest_by : (o : Option (List ℕ)) (old call : CallState) → Continues old call → Continues old (step.taken_message o call)
rest_by None old call h = end_by call.ended old (step.with_rest call) (λ e. (let was : IsTrimmed old call = h e in record { ended = was.ended; text = was.text }))
rest_by (Some octets) old call h = λ e. (let was : IsTrimmed old call = h e in record { ended = was.ended; text = was.text })

item_by : (o : Option (List Field)) (call : CallState) → Continues call (step.taken_item o call)
item_by None call =
    rest_by (first_of call.inbox.messages) call (step.without_head call) (goes call (step.without_head call) (trim_self call.buffer) (λ e. e))
item_by (Some meta) call = goes call (step.taken_item (Some meta) call) (trim_self call.buffer) (λ e. e)

taken_if : (q : Bool) (call : CallState) → Continues call (if q then call else step.taken_item call.inbox.head call)
taken_if true call = self call
taken_if false call = item_by call.inbox.head call

pub taken : (call : CallState) → Continues call (step.taken call)
taken call = taken_if call.inbox.is_end_taken call

pub fed : (row len : ℕ) (call : CallState) → Continues call (step.fed_row row len call)
fed row len call = goes call (step.fed_row row len call) (trim_fed row len call.buffer) (λ e. e)

-- a Send: where the call has room for the message, and else nothing is added
pub record IsGrown (message : List ℕ) (old new : CallState) : Type 0 where
  pub ended : old.ended ≡ None
  pub text : IsTrim (appended (framed message) old.buffer) new.buffer

module _ (message : List ℕ) (moment : ℕ) (s : Stepped) where
  abbrev b : Buffered
  b = s.call.buffer

  abbrev f : List ℕ
  f = framed message

  pushed_on : (o : Option ℕ) (r : Result Pushed PushFault) → IsTrim (appended f b) (pushed_by b f o r) ⊎ IsTrim b (pushed_by b f o r)
  pushed_on o (Err why) = inr (trim_self b)
  pushed_on o (Ok pushed.Kept) = inl (trim_self (appended f b))
  pushed_on None (Ok pushed.Overflow) = inl (trim_self (appended f b))
  pushed_on (Some row) (Ok pushed.Overflow) = inl (trim_to row (appended f b))

  -- a commitment leaves the buffer and the end
  over_buffer : (q : Bool) (o : Option ℕ) (z : Stepped) → ((step.committed_over q o moment z).call.buffer ≡ z.call.buffer) × ((step.committed_over q o moment z).call.ended ≡ z.call.ended)
  over_buffer q None z = (refl, refl)
  over_buffer true (Some row) z = (refl, refl)
  over_buffer false (Some row) z = (refl, refl)

  abbrev row : Option ℕ
  row = furthest b s.call.live

  abbrev z : Stepped
  z = record s { call = step.with_message message row s.call }

  abbrev reported : Stepped
  reported = step.committed_over (pushed_over b f row) row moment z

  grown_by : IsTrim (appended f b) z.call.buffer ⊎ IsTrim b z.call.buffer → reported.call.ended ≡ None → IsGrown message s.call reported.call ⊎ IsTrimmed s.call reported.call
  grown_by (inl text) e =
      let same = over_buffer (pushed_over b f row) row z in
      inl (record { ended = sym same.1 ∙ e; text = subst (IsTrim (appended f b)) (sym same.0) text })
  grown_by (inr text) e =
      let same = over_buffer (pushed_over b f row) row z in
      inr (record { ended = sym same.1 ∙ e; text = subst (IsTrim b) (sym same.0) text })

  free_any : (q : Bool) (h : Option ℕ) → (if q then step.ended_as ends.Request moment s else step.accepted_if h message moment s).call.ended ≡ None
      → IsGrown message s.call (if q then step.ended_as ends.Request moment s else step.accepted_if h message moment s).call
      ⊎ IsTrimmed s.call (if q then step.ended_as ends.Request moment s else step.accepted_if h message moment s).call
  free_any true h e = absurd (let bad : Some ends.Request ≡ None = e in (cc))
  free_any false (Some held) e = inr (self s.call e)
  free_any false None e = grown_by (pushed_on row (push_answer b (length f) row)) e

  any_if : (o : Option Refusal) → (step.sent_if o message moment s).call.ended ≡ None
      → IsGrown message s.call (step.sent_if o message moment s).call ⊎ IsTrimmed s.call (step.sent_if o message moment s).call
  any_if None e = free_any (is_too_long s.call.chosen (length message)) (step.full_with (length message) s.call) e
  any_if (Some refusal) e = inr (self s.call e)

  pub sent_any : (step.sent message moment s).call.ended ≡ None → IsGrown message s.call (step.sent message moment s).call ⊎ IsTrimmed s.call (step.sent message moment s).call
  sent_any e = any_if (step.send_refusal s.call) e

  -- nothing is added
  free_quiet : (q : Bool) (h : Option ℕ) → (q ≡ false → h ≡ None → ⊥) → Continues s.call (if q then step.ended_as ends.Request moment s else step.accepted_if h message moment s).call
  free_quiet true h off = ended s.call ends.Request moment s
  free_quiet false (Some held) off = self s.call
  free_quiet false None off = absurd (off refl refl)

  quiet_if : (o : Option Refusal) → (o ≡ None → is_too_long s.call.chosen (length message) ≡ false → step.full_with (length message) s.call ≡ None → ⊥)
      → Continues s.call (step.sent_if o message moment s).call
  quiet_if None off = free_quiet (is_too_long s.call.chosen (length message)) (step.full_with (length message) s.call) (off refl)
  quiet_if (Some refusal) off = self s.call

  pub sent_quiet : (step.send_refusal s.call ≡ None → is_too_long s.call.chosen (length message) ≡ false → step.full_with (length message) s.call ≡ None → ⊥)
      → Continues s.call (step.sent message moment s).call
  sent_quiet off = quiet_if (step.send_refusal s.call) off
