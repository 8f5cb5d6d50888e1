-- Nobody has to believe these steps: what the code does to the parts of a call, one definition for each function.
use Rattle.std.specs.Prelude.{ℕ, ◌+◌, ◌-◌, Bool, true, false, not, ◌&&◌, ◌||◌, ◌==◌, nat_le, nat_lt, if◌then◌else◌, min, max, Option, Some, None, is_some, Result, Ok, Err, List, [], ◌∷◌, ◌++◌, length, take, filter, slice_get}
use Rattle.std.specs.List.{find}
use Rattle.std.specs.Option.{option_map, option_map_or}
use Rattle.grpc_base.specs.Codes.{has_code}
use Rattle.grpc_base.specs.Requests.{RequestSeen}
use Rattle.grpc_base.specs.declared.code.Code.{Code}
use Rattle.grpc_base.specs.declared.code.Code.TheVariants as code
use Rattle.grpc_base.specs.declared.event.EndCause.{EndCause}
use Rattle.grpc_base.specs.declared.event.EndCause.TheVariants as ends
use Rattle.grpc_base.specs.declared.event.Reply.{Reply}
use Rattle.grpc_base.specs.declared.event.Reply.TheVariants as reply
use Rattle.grpc_base.specs.declared.plan.CallPlan.{CallPlan}
use Rattle.grpc_base.specs.declared.plan.CallPlan.TheVariants as plans
use Rattle.grpc_base.specs.declared.plan.Chosen.{Chosen}
use Rattle.grpc_base.specs.declared.plan.HedgePolicy.{HedgePolicy}
use Rattle.grpc_base.specs.declared.plan.Pushback.{Pushback}
use Rattle.grpc_base.specs.declared.plan.Pushback.TheVariants as pushback
use Rattle.grpc_base.specs.declared.plan.RetryPolicy.{RetryPolicy}
use Rattle.attempt_ledger.specs.Ends.{is_stop}
use Rattle.attempt_ledger.specs.declared.ledger.LinkSeen.{LinkSeen}
use Rattle.attempt_ledger.specs.declared.news.EndNews.{EndNews}
use Rattle.attempt_ledger.specs.declared.next.Next.{Next}
use Rattle.attempt_ledger.specs.declared.next.Next.TheVariants as next
use Rattle.attempt_ledger.specs.declared.row.Row.{Row}
use Rattle.attempt_ledger.specs.declared.row.RowCause.{RowCause}
use Rattle.attempt_ledger.specs.declared.row.RowCause.TheVariants as cause
use Rattle.attempt_ledger.specs.declared.row.RowEnd.{RowEnd}
use Rattle.attempt_ledger.specs.declared.row.RowKind.{RowKind}
use Rattle.attempt_ledger.specs.declared.row.RowKind.TheVariants as kind
use Rattle.attempt_buffer.specs.Buffers.{Buffered, after_taking, can_open, committed_to, is_open, left_of, opened, push_answer, pushed_to}
use Rattle.attempt_buffer.specs.declared.buffer.Pushed.{Pushed}
use Rattle.attempt_buffer.specs.declared.buffer.Pushed.TheVariants as pushed
use Rattle.attempt_buffer.specs.declared.buffer.PushFault.{PushFault}
use Rattle.a6_numbers.specs.Throttling.{Bucket, after_failure, after_success}
use Rattle.a6_numbers.specs.Throttling as throttling
use Rattle.retry_core.specs.Retries.{after_retryable_end}
use Rattle.hedge_core.specs.DueMoments.{ended_state, next_of}
use Rattle.hedge_core.specs.DueMoments as hedging
use Rattle.hedge_core.specs.declared.hedges.HedgeState.{HedgeState}
use Rattle.ledger_stamps.specs.Steps.{index_at}
use Rattle.call_core.specs.declared.attempts.Attempts.{Attempts}
use Rattle.call_core.specs.declared.inbox.Inbox.{Inbox}
use Rattle.call_core.specs.declared.judge.Judged.{Judged}
use Rattle.call_core.specs.declared.live.LiveRow.{LiveRow}

-- whether a row is this one
abbrev pub names : ℕ → Option ℕ → Bool
names place None = false
names place (Some row) = row == place

abbrev pub has_none : {X : Type 0} → List X → Bool
has_none xs = length xs == 0

-- what a call knows of its attempts
abbrev pub no_attempts : Attempts
no_attempts = record { sent = 0; newest = None; placed = None; forced = None; stopped = true; delayed = 0; last = None; is_refusal_followed = false; committed = None }

abbrev pub configured_attempts : ℕ → Attempts → Attempts
configured_attempts moment a = record a { forced = Some moment; stopped = false }

abbrev pub made_attempts : ℕ → Attempts → Attempts
made_attempts place a = record a { sent = min (a.sent + 1) 4294967295; newest = Some place; placed = None; forced = None }

abbrev pub placed_attempts : ℕ → ℕ → Attempts → Attempts
placed_attempts place moment a = record a { placed = (if names place a.newest then Some moment else a.placed) }

abbrev pub stopped_attempts : Attempts → Attempts
stopped_attempts a = record a { stopped = true }

abbrev pub committed_attempts : ℕ → Attempts → Attempts
committed_attempts place a = record a { stopped = true; committed = Some place }

abbrev pub followed_attempts : ℕ → ℕ → Bool → Attempts → Attempts
followed_attempts row follower by_refusal a = record a {
  committed = (if names row a.committed then Some follower else a.committed);
  is_refusal_followed = a.is_refusal_followed || by_refusal;
}

abbrev pub lasted_attempts : ℕ → Attempts → Attempts
lasted_attempts place a = record a { last = Some place }

-- live rows
abbrev pub is_row : ℕ → LiveRow → Bool
is_row place row = row.place == place

abbrev pub find_live : ℕ → List LiveRow → Option LiveRow
find_live place live = find (is_row place) live

abbrev pub without : ℕ → List LiveRow → List LiveRow
without place live = filter (λ row. not (is_row place row)) live

abbrev pub kept_alone : ℕ → List LiveRow → List LiveRow
kept_alone place live = filter (is_row place) live

abbrev pub linked : ℕ → ℕ → LiveRow → LiveRow
linked place link row = if is_row place row then record row { link = Some link } else row

abbrev pub ready_of : ℕ → Buffered → ℕ
ready_of place b = length (left_of place b)

abbrev pub is_further : Buffered → LiveRow → LiveRow → Bool
is_further b row other =
    nat_lt (ready_of row.place b) (ready_of other.place b)
    || ((ready_of row.place b == ready_of other.place b) && nat_lt row.number other.number)

abbrev pub further_than : Buffered → Option LiveRow → LiveRow → Option LiveRow
further_than b None row = Some row
further_than b (Some other) row = if is_further b row other then Some row else Some other

abbrev pub further : Buffered → Option LiveRow → LiveRow → Option LiveRow
further b best row = if is_open row.place b then further_than b best row else best

abbrev pub furthest_from : Buffered → Option LiveRow → List LiveRow → Option LiveRow
furthest_from b best [] = best
furthest_from b best (row ∷ live) = furthest_from b (further b best row) live

-- the open row that was sent furthest, of equals the one of the lowest number
abbrev pub furthest : Buffered → List LiveRow → Option ℕ
furthest b live = option_map (λ row. row.place) (furthest_from b None live)

-- what came for the application
abbrev pub fresh_inbox : Inbox
fresh_inbox = record { head = None; messages = []; is_end_taken = false }

abbrev pub first_of : List (List ℕ) → Option (List ℕ)
first_of [] = None
first_of (message ∷ messages) = Some message

abbrev pub rest_of : List (List ℕ) → List (List ℕ)
rest_of [] = []
rest_of (message ∷ messages) = messages

-- tokens
abbrev pub count_of : Option Bucket → Option ℕ
count_of tokens = option_map (λ b. b.count) tokens

abbrev pub is_above : Option Bucket → Bool
is_above tokens = option_map_or throttling.is_above tokens true

abbrev pub is_ok : Code → Bool
is_ok code.Ok = true
is_ok _ = false

abbrev pub settled_bucket : Code → Pushback → Bool → Bucket → Bucket
settled_bucket code pushback in_set b =
    if is_ok code then after_success b else if in_set || is_stop pushback then after_failure b else b

abbrev pub settled_tokens : Code → Pushback → Bool → Option Bucket → Option Bucket
settled_tokens code pushback in_set tokens = option_map (settled_bucket code pushback in_set) tokens

-- what the configuration says
abbrev pub plan_of : Option Chosen → CallPlan
plan_of None = plans.None
plan_of (Some chosen) = chosen.plan

abbrev pub is_in_set : CallPlan → Code → Bool
is_in_set plans.None code = false
is_in_set (plans.Retry policy) code = has_code policy.codes code
is_in_set (plans.Hedge policy) code = has_code policy.codes code

abbrev pub is_too_long : Option Chosen → ℕ → Bool
is_too_long None len = false
is_too_long (Some chosen) len = nat_lt chosen.request len

abbrev pub or_else : {X : Type 0} → Option X → X → X
or_else None x = x
or_else (Some y) x = y

abbrev pub config_wait : Option Chosen → Bool
config_wait None = false
config_wait (Some chosen) = or_else chosen.wait false

abbrev pub waits_for : RequestSeen → Option Chosen → Bool
waits_for request chosen = or_else request.wait (config_wait chosen)

abbrev pub config_timeout : Option Chosen → Option ℕ
config_timeout None = None
config_timeout (Some chosen) = chosen.timeout

abbrev pub sooner : Option ℕ → Option ℕ → Option ℕ
sooner None other = other
sooner (Some one) None = Some one
sooner (Some one) (Some other) = Some (min one other)

abbrev pub deadline_of : ℕ → RequestSeen → Option Chosen → Option ℕ
deadline_of begun request chosen = option_map (λ timeout. begun + timeout) (sooner request.timeout (config_timeout chosen))

-- the next due moment
abbrev pub hedge_of : Attempts → HedgeState
hedge_of a = record { sent = a.sent; last_placed = a.placed; forced = a.forced; stopped = a.stopped; outstanding = 0 }

abbrev pub next_forced : ℕ → Attempts → Option ℕ
next_forced most a = if a.stopped || nat_le most a.sent then None else a.forced

abbrev pub next_of_plan : CallPlan → Attempts → Option ℕ
next_of_plan plans.None a = next_forced 1 a
next_of_plan (plans.Retry policy) a = next_forced policy.max a
next_of_plan (plans.Hedge policy) a = if a.sent == 0 then next_forced policy.max a else hedging.next_due policy (hedge_of a)

abbrev pub is_tested : CallPlan → Attempts → Bool
is_tested (plans.Hedge policy) a = not (a.sent == 0)
is_tested _ a = false

abbrev pub later_kind : CallPlan → RowKind
later_kind (plans.Hedge policy) = kind.Hedge
later_kind _ = kind.Retry

abbrev pub kind_of_next : CallPlan → Attempts → RowKind
kind_of_next plan a = if a.sent == 0 then kind.First else later_kind plan

-- what an end means
abbrev pub is_refusal : RowCause → Bool
is_refusal cause.Goaway = true
is_refusal cause.Reset = true
is_refusal _ = false

abbrev pub is_unsent : RowCause → Bool
is_unsent cause.Unsent = true
is_unsent _ = false

abbrev pub is_followed : Attempts → RowCause → Bool → Bool
is_followed a why unseen =
    is_unsent why || (is_refusal why && unseen && not (is_some a.committed) && not a.is_refusal_followed)

abbrev pub due_of : Next → Option ℕ
due_of (next.Again due) = Some due
due_of next.Final = None

abbrev pub is_final : Next → Bool
is_final (next.Again due) = false
is_final next.Final = true

abbrev pub delayed_after : Pushback → ℕ → ℕ → ℕ
delayed_after (pushback.After millis) number delayed = number
delayed_after _ number delayed = delayed

abbrev pub drawn : Pushback → ℕ → Option ℕ
drawn (pushback.After millis) word = None
drawn _ word = Some word

abbrev pub word_of : Next → Pushback → ℕ → Option ℕ
word_of (next.Again due) p word = drawn p word
word_of next.Final p word = None

abbrev pub from_one : ℕ → ℕ
from_one n = max n 1

abbrev pub retry_after : RetryPolicy → Attempts → ℕ → RowEnd → Bool → ℕ → Next
retry_after policy a number end above word =
    after_retryable_end policy (from_one number) (from_one (from_one number - a.delayed)) end above word

abbrev pub judged_retry : RetryPolicy → Attempts → ℕ → RowEnd → Bool → ℕ → Judged
judged_retry policy a number end above word = record {
  attempts = record a { forced = due_of (retry_after policy a number end above word); delayed = delayed_after end.pushback (from_one number) a.delayed };
  word = word_of (retry_after policy a number end above word) end.pushback word;
  closes = is_final (retry_after policy a number end above word);
}

abbrev pub hedge_before : Attempts → HedgeState
hedge_before a = record { sent = from_one a.sent; last_placed = None; forced = a.forced; stopped = a.stopped; outstanding = 1 }

abbrev pub hedge_after : HedgePolicy → Attempts → RowEnd → Bool → HedgeState
hedge_after policy a end above = ended_state policy (hedge_before a) end above

abbrev pub judged_hedge : HedgePolicy → Attempts → Bool → RowEnd → Bool → Judged
judged_hedge policy a is_alone end above = record {
  attempts = record a { forced = (hedge_after policy a end above).forced; stopped = (hedge_after policy a end above).stopped };
  word = None;
  closes = not (has_code policy.codes end.code) || (is_alone && is_final (next_of (hedging.next_due policy (hedge_after policy a end above))));
}

abbrev pub judged : CallPlan → Attempts → ℕ → Bool → RowEnd → Bool → ℕ → Judged
judged plans.None a number is_alone end above word = record { attempts = a; word = None; closes = true }
judged (plans.Retry policy) a number is_alone end above word = judged_retry policy a number end above word
judged (plans.Hedge policy) a number is_alone end above word = judged_hedge policy a is_alone end above

-- ends of rows
abbrev pub row_end : EndNews → ℕ → ℕ → Option ℕ → RowEnd
row_end news entry moment tokens = record {
  entry = entry;
  moment = moment;
  code = news.code;
  text = news.text;
  meta = news.meta;
  pushback = news.pushback;
  unseen = news.unseen;
  seen = news.seen;
  cause = news.cause;
  tokens = tokens;
  word = None;
}

abbrev pub cut_end : ℕ → ℕ → ℕ → Option ℕ → RowEnd
cut_end entry moment seen tokens = record {
  entry = entry;
  moment = moment;
  code = code.Cancelled;
  text = [];
  meta = [];
  pushback = pushback.None;
  unseen = false;
  seen = seen;
  cause = cause.Cut;
  tokens = tokens;
  word = None;
}

abbrev pub pick_end : EndNews
pick_end = record { code = code.Unavailable; text = []; meta = []; pushback = pushback.None; unseen = false; seen = 0; cause = cause.Pick }

-- the bytes of a link up to the last frame that was applied
abbrev pub read_in : List LinkSeen → Option ℕ → ℕ
read_in links None = 0
read_in links (Some index) = option_map_or (λ link. link.read) (slice_get links index) 0

abbrev pub read_of : List LinkSeen → ℕ → ℕ
read_of links link = read_in links (index_at link (length links))

-- the messages that a call sends
abbrev pub opened_row : ℕ → Buffered → Buffered
opened_row row b = if can_open row b then opened row b else b

abbrev pub committed_buffer : ℕ → Buffered → Buffered
committed_buffer row b = if is_open row b then committed_to row b else b

abbrev pub begun_row : ℕ → Bool → Buffered → Buffered
begun_row row is_committed b = if is_committed then committed_buffer row (opened_row row b) else opened_row row b

abbrev pub has_room : Bool → Bool → ℕ → ℕ → Bool
has_room is_committed has_outstanding held len =
    if is_committed then nat_lt held 65536 else has_outstanding || nat_le (len + 5 + held) 262144

abbrev pub can_feed : ℕ → ℕ → Buffered → Bool
can_feed row len b = is_open row b && nat_le len (ready_of row b)

abbrev pub fed_buffer : ℕ → ℕ → Buffered → Buffered
fed_buffer row len b = if can_feed row len b then after_taking row len b else b

abbrev pub fed_out : ℕ → ℕ → Buffered → List ℕ → List ℕ
fed_out row len b out = if can_feed row len b then out ++ take len (left_of row b) else out

abbrev pub is_over : Result Pushed PushFault → Bool
is_over (Ok pushed.Overflow) = true
is_over (Ok pushed.Kept) = false
is_over (Err fault) = false

abbrev pub pushed_by : Buffered → List ℕ → Option ℕ → Result Pushed PushFault → Buffered
pushed_by b text row (Ok answer) = pushed_to b text answer row
pushed_by b text row (Err fault) = b

abbrev pub pushed_over : Buffered → List ℕ → Option ℕ → Bool
pushed_over b text row = is_over (push_answer b (length text) row)

abbrev pub pushed_buffer : Buffered → List ℕ → Option ℕ → Buffered
pushed_buffer b text row = pushed_by b text row (push_answer b (length text) row)

-- the end that an application takes
abbrev pub code_of : EndCause → Code
code_of ends.Row = code.Unknown
code_of ends.Deadline = code.DeadlineExceeded
code_of ends.Cancelled = code.Cancelled
code_of ends.Request = code.ResourceExhausted
code_of ends.Response = code.ResourceExhausted
code_of ends.NoConfig = code.Unavailable
code_of ends.Shut = code.Unavailable

abbrev pub is_by_row : EndCause → Bool
is_by_row ends.Row = true
is_by_row _ = false

abbrev pub row_at : List Row → Option ℕ → Option Row
row_at rows None = None
row_at rows (Some index) = slice_get rows index

abbrev pub end_of_row : Option Row → Option RowEnd
end_of_row None = None
end_of_row (Some row) = row.ended

abbrev pub end_at : List Row → Option ℕ → Option RowEnd
end_at rows None = None
end_at rows (Some place) = end_of_row (row_at rows (index_at place (length rows)))

abbrev pub channel_end : EndCause → Reply
channel_end why = reply.End (code_of why) [] [] why

abbrev pub row_end_reply : Option RowEnd → Reply
row_end_reply None = channel_end ends.Row
row_end_reply (Some end) = reply.End end.code end.text end.meta ends.Row

abbrev pub end_reply : List Row → Option ℕ → EndCause → Reply
end_reply rows committed why = if is_by_row why then row_end_reply (end_at rows committed) else channel_end why
