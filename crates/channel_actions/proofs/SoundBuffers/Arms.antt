-- What is done to a call leaves what it holds of its messages sound.
use Rattle.std.proofs.Common.{◌≡◌, ◌+◌, ◌∷◌, ◌++◌, ◌&&◌, ◌||◌, ◌==◌, not, ap, refl, subst, sym, ◌∙◌, Bool, true, false, List, [], Option, None, Some, ℕ, cond, if◌then◌else◌, is_some, length, nat_le, nat_lt, arith, ◌-◌, ◌≤◌}
use Rattle.std.proofs.lemmas.Bool.Decides.{nat_tests}
use Rattle.std.proofs.lemmas.Bool.{both_ways}
use Rattle.std.specs.Option.{option_map_or}
use Rattle.std.specs.Prelude.{Err, Ok, Result, max}
use Rattle.attempt_buffer.specs.Buffers.{Buffered, Committed, appended, closed as closed_row, committed_at, held, push_answer, taken_by, text_of}
use Rattle.attempt_buffer.specs.declared.buffer.PushFault.TheVariants as fault
use Rattle.attempt_buffer.specs.declared.buffer.PushFault.{PushFault}
use Rattle.attempt_buffer.specs.declared.buffer.Pushed.{Pushed}
use Rattle.attempt_buffer.specs.declared.buffer.Pushed.TheVariants as pushed
use Rattle.attempt_ledger.specs.declared.news.EndNews.{EndNews}
use Rattle.attempt_ledger.specs.declared.news.News.{News}
use Rattle.attempt_ledger.specs.declared.news.News.TheVariants as news
use Rattle.attempt_ledger.specs.declared.row.Placed.{Placed}
use Rattle.attempt_ledger.specs.declared.row.RowEnd.{RowEnd}
use Rattle.call_core.specs.Laws.{AllAt, IsKept}
use Rattle.call_core.specs.Parts.{committed_buffer, count_of, find_live, first_of, furthest, has_none, is_above, is_followed, is_over, is_row, is_tested, is_too_long, names, pick_end, pushed_by, row_end, stopped_attempts}
use Rattle.call_core.specs.Steps as step
use Rattle.call_core.specs.Steps.{Stepped}
use Rattle.call_core.specs.declared.judge.Judged.{Judged}
use Rattle.call_core.specs.declared.live.LiveRow.{LiveRow}
use Rattle.call_core.specs.declared.state.CallState.{CallState}
use Rattle.channel_actions.proofs.SoundBuffers.Buffers.{IsSoundFor, at_row, begun_so, closed_so, committed_so, fed_so, free, fresh, more, more_long, more_within, taken as taken_row, uncommitted}
use Rattle.channel_actions.specs.SoundBuffers.Held.{HoldsSoundly}
use Rattle.grpc_base.specs.Requests.{RequestSeen}
use Rattle.channel_actions.proofs.Drains.Calls.Feeds.{IsWithin}
use Rattle.grpc_base.specs.declared.event.EndCause.{EndCause}
use Rattle.grpc_base.specs.declared.event.EndCause.TheVariants as ends
use Rattle.grpc_base.specs.declared.event.Refusal.{Refusal}
use Rattle.grpc_base.specs.declared.fields.Field.{Field}
use Rattle.grpc_base.specs.declared.plan.Chosen.{Chosen}
use Rattle.grpc_frame.specs.Messages.{framed}

-- in the words of buffers
abbrev pub Sound : CallState → Type 0
Sound call = IsSoundFor call.attempts.committed call.buffer

pub from_held : (call : CallState) → HoldsSoundly call → Sound call
from_held call h = record { within = h.within; alone = h.alone; kept = h.kept; row = h.row; free = λ e. record { whole = h.whole e; low = h.room e } }

pub to_held : (call : CallState) → Sound call → HoldsSoundly call
to_held call h = record { within = h.within; alone = h.alone; kept = h.kept; row = h.row; whole = λ e. (h.free e).whole; room = λ e. (h.free e).low }

-- it began; and it ended
pub begun : (number : ℕ) (request : RequestSeen) (moment : ℕ) → Sound (step.new_call number request moment)
begun number request moment = fresh None

pub ended : (why : EndCause) (moment : ℕ) (s : Stepped) → Sound (step.ended_as why moment s).call
ended why moment s = fresh _

ended_if : (ends : Bool) (why : EndCause) (moment : ℕ) (s : Stepped) → Sound s.call → Sound (step.ended_if ends why moment s).call
ended_if true why moment s h = ended why moment s
ended_if false why moment s h = h

pub closed : (why : EndCause) (moment : ℕ) (s : Stepped) → Sound s.call → Sound (step.closed_by why moment s).call
closed why moment s h = ended_if (not (is_some s.call.ended)) why moment s h

timed_if : (o : Option ℕ) (moment : ℕ) (s : Stepped) → Sound s.call → Sound (step.timed_out_if o moment s).call
timed_if None moment s h = h
timed_if (Some deadline) moment s h = by_time (nat_le deadline moment)
  where
    by_time : (q : Bool) → Sound (if q then step.closed_by ends.Deadline moment s else s).call
    by_time true = closed ends.Deadline moment s h
    by_time false = h

pub timed_out : (moment : ℕ) (s : Stepped) → Sound s.call → Sound (step.timed_out moment s).call
timed_out moment s h = timed_if (step.deadline_at s.call) moment s h

-- its configuration
configured_if : (q long : Bool) (chosen : Chosen) (moment : ℕ) (s : Stepped) → Sound s.call
    → Sound (if q then s else step.ended_if long ends.Request moment (step.with_chosen chosen moment s)).call
configured_if true long chosen moment s h = h
configured_if false long chosen moment s h = ended_if long ends.Request moment (step.with_chosen chosen moment s) h

pub configured : (chosen : Chosen) (moment : ℕ) (s : Stepped) → Sound s.call → Sound (step.configured chosen moment s).call
configured chosen moment s h =
    configured_if (is_some s.call.ended || is_some s.call.chosen) (is_too_long (Some chosen) s.call.longest) chosen moment s h

-- a row of it is placed
found_by : (place row : ℕ) (r x : LiveRow) (live : List LiveRow) (q : Bool) → AllAt place (x ∷ live) → cond q (Some x) (find_live row live) ≡ Some r
    → (find_live row live ≡ Some r → r.place ≡ place) → r.place ≡ place
found_by place row r x live true all e rest = let same : x ≡ r = (cc) in sym (ap (λ (z : LiveRow). z.place) same) ∙ all.0
found_by place row r x live false all e rest = rest e

found : (place row : ℕ) (r : LiveRow) (live : List LiveRow) → AllAt place live → find_live row live ≡ Some r → r.place ≡ place
found place row r [] all e = absurd (cc)
found place row r (x ∷ live) all e = found_by place row r x live (is_row row x) all e (λ f. found place row r live all.1 f)

placed_by : (o : Option LiveRow) (row : ℕ) (at : Placed) (s : Stepped) → find_live row s.call.live ≡ o → IsKept s.call → Sound s.call → Sound (step.placed_if_live o at s).call
placed_by None row at s e kept h = h
placed_by (Some r) row at s e kept h = by_link (is_some r.link)
  where
    by_link : (q : Bool) → Sound (if q then s else step.placed_row_live r at s).call
    by_link true = h
    by_link false =
        begun_so s.call.attempts.committed r.place s.call.buffer (λ place f. sym (found place row r s.call.live (kept.committed place f).live e)) h

pub placed : (row : ℕ) (at : Placed) (s : Stepped) → IsKept s.call → Sound s.call → Sound (step.placed_at row at s).call
placed row at s kept h = placed_by (find_live row s.call.live) row at s refl kept h

-- its next attempt is made
last_by : (o : Option ℕ) (moment : ℕ) (s : Stepped) → Sound s.call → Sound (step.ended_by_last o moment s).call
last_by None moment s h = h
last_by (Some last) moment s h = by_none (has_none s.call.live)
  where
    by_none : (q : Bool) → Sound (if q then step.ended_by_row last moment s else s).call
    by_none true = ended ends.Row moment (step.committed last moment s)
    by_none false = h

due_by : (q : Bool) (moment due : ℕ) (s : Stepped) → Sound s.call → Sound (if q then step.refused_due moment s else step.made due s).call
due_by true moment due s h = last_by s.call.attempts.last moment (step.with_attempts (stopped_attempts s.call.attempts) s) h
due_by false moment due s h = h

made_if : (o : Option ℕ) (moment : ℕ) (s : Stepped) → Sound s.call → Sound (step.made_if o moment s).call
made_if None moment s h = h
made_if (Some due) moment s h = by_time (nat_lt moment due)
  where
    by_time : (q : Bool) → Sound (if q then s else step.due_at moment due s).call
    by_time true = h
    by_time false = due_by (is_tested (step.call_plan s.call) s.call.attempts && not (is_above s.tokens)) moment due s h

pub made : (moment : ℕ) (s : Stepped) → Sound s.call → Sound (step.made_due moment s).call
made moment s h = made_if (step.next_due s.call) moment s h

-- a row of it ended
followed_by : (c : Option ℕ) (row follower : ℕ) (b : Buffered) (q : Bool) → names row c ≡ q → IsSoundFor c b → IsSoundFor (if q then Some follower else c) (closed_row row b)
followed_by None row follower b true e h = absurd (cc)
followed_by (Some place) row follower b true e h =
    closed_so (Some place) (Some follower) row b (λ f. refl)
    (λ m f off.
    absurd (let one : place ≡ m.row = (cc) in both_ways (m.row == row) off (ap (λ (n : ℕ). n == row) (sym one) ∙ e))) h
followed_by c row follower b false e h = closed_so c c row b (λ f. f) (λ m f off. f) h

free_row : (c d : Option ℕ) (row : ℕ) (b : Buffered) → c ≡ None → IsSoundFor c b → IsSoundFor d (closed_row row b)
free_row c d row b e h =
    let none : IsSoundFor None (closed_row row b) = closed_so None None row b (λ f. f) (λ m f off. f) (subst (λ (z : Option ℕ). IsSoundFor z b) e h) in
    free d (closed_row row b) (uncommitted (closed_row row b) none (closed_row row b).committed refl) none.within (λ f. none.free refl)

closes_by : (q : Bool) (place moment : ℕ) (s : Stepped) → Sound s.call → Sound (step.closed_if q place moment s).call
closes_by true place moment s h = ended ends.Row moment (step.committed place moment s)
closes_by false place moment s h = h

none_of : (o : Option ℕ) → is_some o ≡ false → o ≡ None
none_of None e = refl
none_of (Some n) e = absurd (cc)

module _ (row : LiveRow) (reported : EndNews) (moment word : ℕ) (s : Stepped) (h : Sound s.call) where
  abbrev left : Stepped
  left = step.settled reported (step.left_live row.place s)

  abbrev end : RowEnd
  end = row_end reported left.ledger.entry moment (count_of left.tokens)

  abbrev after : Judged
  after = step.judged_of row end word left.call left.tokens

  counted_by : (q : Bool) → is_some s.call.attempts.committed ≡ q
      → Sound (if q then step.ended_as ends.Row moment (step.row_ended row.place end left) else step.counted_free row end moment word left).call
  counted_by true e = ended ends.Row moment (step.row_ended row.place end left)
  counted_by false e =
      closes_by after.closes row.place moment (step.with_judged row end after left)
      (free_row s.call.attempts.committed (step.with_judged row end after left).call.attempts.committed row.place s.call.buffer (none_of s.call.attempts.committed e) h)

  live_by : (q : Bool)
      → Sound (if q then step.followed row reported moment (step.left_live row.place s) else step.counted row reported moment word left).call
  live_by true =
      followed_by s.call.attempts.committed row.place _ s.call.buffer (names row.place s.call.attempts.committed) refl h
  live_by false = counted_by (is_some s.call.attempts.committed) refl

  pub live_ended : Sound (step.live_ended row reported moment word s).call
  live_ended = live_by (is_followed s.call.attempts reported.cause reported.unseen)

ended_by : (o : Option LiveRow) (reported : EndNews) (moment word : ℕ) (s : Stepped) → Sound s.call → Sound (step.ended_if_live o reported moment word s).call
ended_by None reported moment word s h = h
ended_by (Some row) reported moment word s h = live_ended row reported moment word s h

pub failed : (row moment word : ℕ) (s : Stepped) → Sound s.call → Sound (step.pick_failed row moment word s).call
failed row moment word s h = ended_by (find_live row s.call.live) pick_end moment word s h

-- news of it
commit_by : (row moment : ℕ) (s : Stepped) (q : Bool) → is_some s.call.attempts.committed ≡ q → Sound s.call
    → Sound (if q then s else step.committed row moment (record s { call = record s.call { buffer = committed_buffer row s.call.buffer } })).call
commit_by row moment s true e h = h
commit_by row moment s false e h = committed_so row s.call.buffer (subst (λ (c : Option ℕ). IsSoundFor c s.call.buffer) (none_of s.call.attempts.committed e) h)

head_by : (row : ℕ) (meta : List Field) (moment : ℕ) (s : Stepped) (q : Bool) → Sound s.call
    → Sound (if q then step.with_head meta (step.commit_by_head row moment s) else s).call
head_by row meta moment s true h = commit_by row moment s (is_some s.call.attempts.committed) refl h
head_by row meta moment s false h = h

message_by : (octets : List ℕ) (call : CallState) (q : Bool) → Sound call
    → Sound (if q then record call { inbox = record call.inbox { messages = call.inbox.messages ++ octets ∷ [] } } else call)
message_by octets call true h = h
message_by octets call false h = h

pub handled : (row : ℕ) (reported : News) (moment word : ℕ) (s : Stepped) → Sound s.call → Sound (step.received_news row reported moment word s).call
handled row (news.Head tag meta seen) moment word s h = head_by row meta moment s (is_some (find_live row s.call.live)) h
handled row (news.Message tag octets seen) moment word s h = message_by octets s.call (step.is_committed_live row s.call) h
handled row (news.TooLarge tag seen) moment word s h = ended_if (step.is_committed_live row s.call) ends.Response moment s h
handled row (news.Ended tag end) moment word s h = ended_by (find_live row s.call.live) end moment word s h
handled row news.Ready moment word s h = h
handled row news.Retiring moment word s h = h
handled row (news.Broken code) moment word s h = h

-- what its application sends
over_free : (b : Buffered) (len : ℕ) (o : Option ℕ) (q r t u : Bool) → is_some b.committed ≡ q
    → (if q then (if r then Err (fault.Full (held b)) else Ok pushed.Kept) else if t then Ok pushed.Kept else if u then Ok pushed.Overflow else Err (fault.Full (held b))) ≡ Ok pushed.Overflow
    → is_some b.committed ≡ false
over_free b len o true true t u e is = absurd (cc)
over_free b len o true false t u e is = absurd (cc)
over_free b len o false r t u e is = e

uncommitted_by : (o : Option Committed) → is_some o ≡ false → o ≡ None
uncommitted_by None e = refl
uncommitted_by (Some m) e = absurd (cc)

appended_free : (framed : List ℕ) (b : Buffered) (q : Bool) → b.committed ≡ None → (if q then b else record b { messages = b.messages ++ framed ∷ [] }).committed ≡ None
appended_free framed b true e = e
appended_free framed b false e = e

to_by : (row : ℕ) (b : Buffered) (o : Option ℕ) → taken_by row b ≡ o → b.committed ≡ None → IsWithin b → IsSoundFor (Some row) (option_map_or (λ (taken : ℕ). committed_at row taken b) o b)
to_by row b None e none within = free (Some row) b none within (taken_row row b)
to_by row b (Some taken) e none within = at_row row taken b (within row taken e)

module _ (message : List ℕ) (moment : ℕ) (s : Stepped) (h : Sound s.call) where
  abbrev b : Buffered
  b = s.call.buffer

  abbrev f : List ℕ
  f = framed message

  -- where it is kept, and the call is not committed, there is room for it
  room_by : (q r t : Bool) (full : ℕ) (row : Option ℕ) → q ≡ false
      → (if q then (if r then Err (fault.Full full) else Ok pushed.Kept) else if t then Ok pushed.Kept else if is_some row then Ok pushed.Overflow else Err (fault.Full full)) ≡ Ok pushed.Kept
      → t ≡ true
  room_by true r t full row e is = absurd (let bad : true ≡ false = e in (cc))
  room_by false r true full row e is = refl
  room_by false r false full None e is = absurd (cc)
  room_by false r false full (Some n) e is = absurd (cc)

  low_of : (n : ℕ) → nat_le (n + length f) 262144 ≡ true → n + length f ≤ 262144
  low_of n e = grind (arith, nat_tests)

  kept_low : (row : Option ℕ) → push_answer b (length f) row ≡ Ok pushed.Kept → s.call.attempts.committed ≡ None → length (text_of (appended f b)) ≤ 262144
  kept_low row is e =
      let none : b.committed ≡ None = uncommitted b (subst (λ (c : Option ℕ). IsSoundFor c b) e h) b.committed refl in
      let fits : nat_le (held b + length f) 262144 ≡ true
      = room_by (is_some b.committed) (nat_le 65536 (held b)) (nat_le (held b + length f) 262144) (held b) row (ap (λ (o : Option Committed). is_some o) none) is in
      let whole : held b ≡ length (text_of b) = ap (λ (o : Option Committed). option_map_or (λ (m : Committed). length (text_of b) - m.taken) o (length (text_of b))) none in
      let low : held b + length f ≤ 262144 = low_of (held b) fits in
      let long : length (text_of (appended f b)) ≤ length (text_of b) + length f = more_long f b in omega (arith, whole, low, long)

  over_none : (q r t : Bool) (full : ℕ)
      → (if q then (if r then Err (fault.Full full) else Ok pushed.Kept) else if t then Ok pushed.Kept else if false then Ok pushed.Overflow else Err (fault.Full full)) ≡ Ok pushed.Overflow → ⊥
  over_none true true t full is = (cc)
  over_none true false t full is = (cc)
  over_none false r true full is = (cc)
  over_none false r false full is = (cc)

  grown : (row : Option ℕ) → push_answer b (length f) row ≡ Ok pushed.Kept → Sound (record s.call { buffer = appended f b })
  grown row is = more s.call.attempts.committed f b (kept_low row is) h

  pushed_on : (row : Option ℕ) (answer : Result Pushed PushFault) → push_answer b (length f) row ≡ answer
      → Sound (step.committed_over (is_over answer) row moment (record s { call = record s.call { longest = max s.call.longest (length message); buffer = pushed_by b f row answer } })).call
  pushed_on None (Ok pushed.Overflow) e = absurd (over_none (is_some b.committed) (nat_le 65536 (held b)) (nat_le (held b + length f) 262144) (held b) e)
  pushed_on None (Ok pushed.Kept) e = grown None e
  pushed_on None (Err why) e = h
  pushed_on (Some row) (Ok pushed.Kept) e = grown (Some row) e
  pushed_on (Some row) (Err why) e = h
  pushed_on (Some row) (Ok pushed.Overflow) e =
      let none : b.committed ≡ None
      = uncommitted_by b.committed
      (over_free b (length f) (Some row) (is_some b.committed) (nat_le 65536 (held b)) (nat_le (held b + length f) 262144) true refl e) in
      to_by row (appended f b) (taken_by row (appended f b)) refl (appended_free f b (length f == 0) none) (more_within f b h.within)

  accepted : (o : Option ℕ) → Sound (step.accepted_if o message moment s).call
  accepted None = pushed_on (furthest b s.call.live) (push_answer b (length f) (furthest b s.call.live)) refl
  accepted (Some held) = h

  free_by : (q : Bool) → Sound (if q then step.ended_as ends.Request moment s else step.accepted_if (step.full_with (length message) s.call) message moment s).call
  free_by true = ended ends.Request moment s
  free_by false = accepted (step.full_with (length message) s.call)

  sent_by : (o : Option Refusal) → Sound (step.sent_if o message moment s).call
  sent_by None = free_by (is_too_long s.call.chosen (length message))
  sent_by (Some refusal) = h

  pub sent : Sound (step.sent message moment s).call
  sent = sent_by (step.send_refusal s.call)

-- what is done beside
finished_by : (o : Option Refusal) (call : CallState) → Sound call → Sound (step.finished_if o call)
finished_by None call h = h
finished_by (Some refusal) call h = h

pub finished : (call : CallState) → Sound call → Sound (step.finished call)
finished call h = finished_by (step.send_refusal call) call h

end_by : (o : Option EndCause) (call : CallState) → Sound call → Sound (step.taken_end o call)
end_by None call h = h
end_by (Some why) call h = h

rest_by : (o : Option (List ℕ)) (call : CallState) → Sound call → Sound (step.taken_message o call)
rest_by None call h = end_by call.ended (step.with_rest call) h
rest_by (Some octets) call h = h

item_by : (o : Option (List Field)) (call : CallState) → Sound call → Sound (step.taken_item o call)
item_by None call h = rest_by (first_of call.inbox.messages) (step.without_head call) h
item_by (Some meta) call h = h

taken_if : (q : Bool) (call : CallState) → Sound call → Sound (if q then call else step.taken_item call.inbox.head call)
taken_if true call h = h
taken_if false call h = item_by call.inbox.head call h

pub taken : (call : CallState) → Sound call → Sound (step.taken call)
taken call h = taken_if call.inbox.is_end_taken call h

pub fed : (row len : ℕ) (call : CallState) → Sound call → Sound (step.fed_row row len call)
fed row len call h = fed_so call.attempts.committed row len call.buffer h
