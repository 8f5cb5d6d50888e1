-- Nobody has to believe these steps: what the code does to a call and its ledger, one definition for each function.
use Rattle.std.specs.Prelude.{ℕ, ◌+◌, Bool, true, false, not, ◌&&◌, ◌||◌, nat_le, nat_lt, if◌then◌else◌, min, max, Option, Some, None, is_some, List, [], ◌∷◌, ◌++◌, length, map}
use Rattle.grpc_base.specs.Requests.{RequestSeen}
use Rattle.grpc_base.specs.declared.event.EndCause.{EndCause}
use Rattle.grpc_base.specs.declared.event.EndCause.TheVariants as ends
use Rattle.grpc_base.specs.declared.event.Refusal.{Refusal}
use Rattle.grpc_base.specs.declared.event.Refusal.TheVariants as refusals
use Rattle.grpc_base.specs.declared.event.Reply.{Reply}
use Rattle.grpc_base.specs.declared.event.Reply.TheVariants as reply
use Rattle.grpc_base.specs.declared.fields.Field.{Field}
use Rattle.grpc_base.specs.declared.plan.CallPlan.{CallPlan}
use Rattle.grpc_base.specs.declared.plan.Chosen.{Chosen}
use Rattle.attempt_ledger.specs.declared.ledger.Ledger.{Ledger}
use Rattle.attempt_ledger.specs.declared.news.EndNews.{EndNews}
use Rattle.attempt_ledger.specs.declared.news.News.{News}
use Rattle.attempt_ledger.specs.declared.news.News.TheVariants as news
use Rattle.attempt_ledger.specs.declared.row.Placed.{Placed}
use Rattle.attempt_ledger.specs.declared.row.Row.{Row}
use Rattle.attempt_ledger.specs.declared.row.RowEnd.{RowEnd}
use Rattle.attempt_ledger.specs.declared.row.RowKind.{RowKind}
use Rattle.attempt_ledger.specs.declared.row.RowKind.TheVariants as kind
use Rattle.attempt_buffer.specs.Buffers.{Buffered, closed, held}
use Rattle.a6_numbers.specs.Throttling.{Bucket}
use Rattle.grpc_frame.specs.Messages.{framed}
use Rattle.ledger_stamps.specs.Steps.{changed_at, committed_row, configured_call, ended_call, ended_row, noted_call, placed_row}
use Rattle.call_core.specs.declared.act.CallAct.{CallAct}
use Rattle.call_core.specs.declared.act.CallAct.TheVariants as act
use Rattle.call_core.specs.declared.attempts.Attempts.{Attempts}
use Rattle.call_core.specs.declared.judge.Judged.{Judged}
use Rattle.call_core.specs.declared.live.LiveRow.{LiveRow}
use Rattle.call_core.specs.declared.state.CallState.{CallState}
use Rattle.call_core.specs.Parts.{begun_row, first_of, rest_of, pushed_buffer, pushed_over, committed_attempts, committed_buffer, configured_attempts, count_of, cut_end, deadline_of, end_reply, find_live, followed_attempts, fresh_inbox, furthest, has_none, has_room, is_above, is_followed, is_in_set, is_refusal, is_tested, is_too_long, judged, kept_alone, kind_of_next, lasted_attempts, linked, made_attempts, names, next_of_plan, no_attempts, pick_end, placed_attempts, plan_of, read_of, row_end, settled_tokens, stopped_attempts, waits_for, without}
use Rattle.call_core.specs.Parts as parts

-- a call with what it is lent, and the acts so far
pub record Stepped : Type 0 where
  pub call : CallState
  pub ledger : Ledger
  pub tokens : Option Bucket
  pub acts : List CallAct

abbrev pub lent : CallState → Ledger → Option Bucket → List CallAct → Stepped
lent call ledger tokens acts = record { call = call; ledger = ledger; tokens = tokens; acts = acts }

abbrev pub fresh_buffer : Buffered
fresh_buffer = record { messages = []; cursors = []; committed = None; is_whole = true }

abbrev pub new_call : ℕ → RequestSeen → ℕ → CallState
new_call number request begun = record {
  number = number;
  request = request;
  begun = begun;
  chosen = None;
  is_finished = false;
  longest = 0;
  buffer = fresh_buffer;
  attempts = no_attempts;
  live = [];
  inbox = fresh_inbox;
  ended = None;
}

abbrev pub call_plan : CallState → CallPlan
call_plan call = plan_of call.chosen

-- rows that are given up
abbrev pub cut_row : ℕ → Option ℕ → ℕ → Ledger → Option ℕ → Ledger
cut_row moment tokens place ledger None = ledger
cut_row moment tokens place ledger (Some link) =
    record ledger { rows = changed_at (ended_row (cut_end ledger.entry moment (read_of ledger.links link) tokens)) ledger.rows place }

abbrev pub given_up_act : ℕ → Option ℕ → CallAct
given_up_act place None = act.Drop place
given_up_act place (Some link) = act.Cut place

abbrev pub cut_unless : Option ℕ → ℕ → Option ℕ → LiveRow → Ledger → Ledger
cut_unless kept moment tokens row ledger = if names row.place kept then ledger else cut_row moment tokens row.place ledger row.link

abbrev pub reported_unless : Option ℕ → LiveRow → List CallAct → List CallAct
reported_unless kept row acts = if names row.place kept then acts else acts ++ given_up_act row.place row.link ∷ []

abbrev pub cut_all : Option ℕ → ℕ → Option ℕ → List LiveRow → Ledger → Ledger
cut_all kept moment tokens [] ledger = ledger
cut_all kept moment tokens (row ∷ live) ledger = cut_all kept moment tokens live (cut_unless kept moment tokens row ledger)

abbrev pub reported_all : Option ℕ → List LiveRow → List CallAct → List CallAct
reported_all kept [] acts = acts
reported_all kept (row ∷ live) acts = reported_all kept live (reported_unless kept row acts)

-- a commitment
abbrev pub commit_stamped : ℕ → Ledger → Ledger
commit_stamped place ledger = record ledger { rows = changed_at (committed_row ledger.entry) ledger.rows place }

abbrev pub committed : ℕ → ℕ → Stepped → Stepped
committed place moment s = record {
  call = record s.call { live = kept_alone place s.call.live; attempts = committed_attempts place s.call.attempts };
  ledger = cut_all (Some place) moment (count_of s.tokens) s.call.live (commit_stamped place s.ledger);
  tokens = s.tokens;
  acts = reported_all (Some place) s.call.live s.acts;
}

-- the end of the call
abbrev pub end_stamped : ℕ → EndCause → ℕ → Ledger → Ledger
end_stamped number why moment ledger =
    record ledger { calls = changed_at (ended_call (record { entry = ledger.entry; moment = moment; cause = why })) ledger.calls number }

abbrev pub ended_as : EndCause → ℕ → Stepped → Stepped
ended_as why moment s = record {
  call = record s.call { live = []; buffer = fresh_buffer; attempts = stopped_attempts s.call.attempts; ended = Some why };
  ledger = end_stamped s.call.number why moment (cut_all None moment (count_of s.tokens) s.call.live s.ledger);
  tokens = s.tokens;
  acts = reported_all None s.call.live s.acts ++ act.End why ∷ [];
}

abbrev pub ended_if : Bool → EndCause → ℕ → Stepped → Stepped
ended_if ends why moment s = if ends then ended_as why moment s else s

abbrev pub ended_by_row : ℕ → ℕ → Stepped → Stepped
ended_by_row place moment s = ended_as ends.Row moment (committed place moment s)

-- a row is made
abbrev pub new_row : ℕ → ℕ → RowKind → ℕ → Option ℕ → Row
new_row call number why due committed = record {
  call = call;
  number = number;
  kind = why;
  due = due;
  placed = None;
  stream = None;
  ended = None;
  committed = committed;
}

abbrev pub next_place : Ledger → ℕ
next_place ledger = length ledger.rows + 1

abbrev pub row_added : ℕ → RowKind → ℕ → Option ℕ → Stepped → Stepped
row_added number why due committed s = record {
  call = record s.call { live = s.call.live ++ record { place = next_place s.ledger; number = number; link = None } ∷ [] };
  ledger = record s.ledger { rows = s.ledger.rows ++ new_row s.call.number number why due committed ∷ []; calls = changed_at (noted_call s.ledger.entry) s.ledger.calls s.call.number };
  tokens = s.tokens;
  acts = s.acts ++ act.Queue (next_place s.ledger) ∷ [];
}

-- the call's attempts, the ledger's end of a row, the tokens
abbrev pub with_attempts : Attempts → Stepped → Stepped
with_attempts attempts s = record s { call = record s.call { attempts = attempts } }

abbrev pub row_ended : ℕ → RowEnd → Stepped → Stepped
row_ended place end s = record s { ledger = record s.ledger { rows = changed_at (ended_row end) s.ledger.rows place } }

-- a row ended, and a transparent retry follows
abbrev pub stamp_if : Bool → ℕ → Option ℕ
stamp_if is_committed entry = if is_committed then Some entry else None

abbrev pub followed : LiveRow → EndNews → ℕ → Stepped → Stepped
followed row reported moment s =
    let t = row_ended row.place (row_end reported s.ledger.entry moment (count_of s.tokens)) s in
    with_attempts (followed_attempts row.place (next_place t.ledger) (is_refusal reported.cause) s.call.attempts)
    (row_added row.number kind.Transparent moment (stamp_if (names row.place s.call.attempts.committed) s.ledger.entry) t)

-- an end that counts
abbrev pub judged_of : LiveRow → RowEnd → ℕ → CallState → Option Bucket → Judged
judged_of row end word call tokens = judged (call_plan call) call.attempts row.number (has_none call.live) end (is_above tokens) word

abbrev pub with_judged : LiveRow → RowEnd → Judged → Stepped → Stepped
with_judged row end after s =
    with_attempts (lasted_attempts row.place after.attempts) (row_ended row.place (record end { word = after.word }) s)

abbrev pub closed_if : Bool → ℕ → ℕ → Stepped → Stepped
closed_if closes place moment s = if closes then ended_by_row place moment s else s

abbrev pub counted_free : LiveRow → RowEnd → ℕ → ℕ → Stepped → Stepped
counted_free row end moment word s =
    let after = judged_of row end word s.call s.tokens in closed_if after.closes row.place moment (with_judged row end after s)

abbrev pub counted : LiveRow → EndNews → ℕ → ℕ → Stepped → Stepped
counted row reported moment word s =
    let end = row_end reported s.ledger.entry moment (count_of s.tokens) in
    if is_some s.call.attempts.committed then ended_as ends.Row moment (row_ended row.place end s)
    else counted_free row end moment word s

-- a live row ended
abbrev pub left_live : ℕ → Stepped → Stepped
left_live place s = record s { call = record s.call { live = without place s.call.live; buffer = closed place s.call.buffer } }

abbrev pub settled : EndNews → Stepped → Stepped
settled reported s = record s { tokens = settled_tokens reported.code reported.pushback (is_in_set (call_plan s.call) reported.code) s.tokens }

abbrev pub live_ended : LiveRow → EndNews → ℕ → ℕ → Stepped → Stepped
live_ended row reported moment word s =
    if is_followed s.call.attempts reported.cause reported.unseen then followed row reported moment (left_live row.place s)
    else counted row reported moment word (settled reported (left_live row.place s))

abbrev pub ended_if_live : Option LiveRow → EndNews → ℕ → ℕ → Stepped → Stepped
ended_if_live None reported moment word s = s
ended_if_live (Some row) reported moment word s = live_ended row reported moment word s

abbrev pub ended_at : ℕ → EndNews → ℕ → ℕ → Stepped → Stepped
ended_at row reported moment word s = ended_if_live (find_live row s.call.live) reported moment word s

abbrev pub pick_failed : ℕ → ℕ → ℕ → Stepped → Stepped
pick_failed row moment word s = ended_at row pick_end moment word s

-- news
abbrev pub commit_by_head : ℕ → ℕ → Stepped → Stepped
commit_by_head row moment s =
    if is_some s.call.attempts.committed then s
    else committed row moment (record s { call = record s.call { buffer = committed_buffer row s.call.buffer } })

abbrev pub with_head : List Field → Stepped → Stepped
with_head meta s = record s { call = record s.call { inbox = record s.call.inbox { head = Some meta } } }

abbrev pub received_head : ℕ → List Field → ℕ → Stepped → Stepped
received_head row meta moment s =
    if is_some (find_live row s.call.live) then with_head meta (commit_by_head row moment s) else s

abbrev pub is_committed_live : ℕ → CallState → Bool
is_committed_live row call = names row call.attempts.committed && is_some (find_live row call.live)

abbrev pub received_message : ℕ → List ℕ → CallState → CallState
received_message row octets call =
    if is_committed_live row call
    then record call { inbox = record call.inbox { messages = call.inbox.messages ++ octets ∷ [] } }
    else call

abbrev pub received_too_large : ℕ → ℕ → Stepped → Stepped
received_too_large row moment s = ended_if (is_committed_live row s.call) ends.Response moment s

abbrev pub received_news : ℕ → News → ℕ → ℕ → Stepped → Stepped
received_news row (news.Head tag meta seen) moment word s = received_head row meta moment s
received_news row (news.Message tag octets seen) moment word s = record s { call = received_message row octets s.call }
received_news row (news.TooLarge tag seen) moment word s = received_too_large row moment s
received_news row (news.Ended tag end) moment word s = ended_at row end moment word s
received_news row news.Ready moment word s = s
received_news row news.Retiring moment word s = s
received_news row (news.Broken code) moment word s = s

-- the configuration
abbrev pub with_chosen : Chosen → ℕ → Stepped → Stepped
with_chosen chosen moment s = record s {
  call = record s.call { chosen = Some chosen; attempts = configured_attempts moment s.call.attempts };
  ledger = record s.ledger { calls = changed_at (configured_call s.ledger.entry) s.ledger.calls s.call.number };
}

abbrev pub configured : Chosen → ℕ → Stepped → Stepped
configured chosen moment s =
    if is_some s.call.ended || is_some s.call.chosen then s
    else ended_if (is_too_long (Some chosen) s.call.longest) ends.Request moment (with_chosen chosen moment s)

-- a placing
abbrev pub placed_row_live : LiveRow → Placed → Stepped → Stepped
placed_row_live row at s = record s {
  call = record s.call {
    buffer = begun_row row.place (names row.place s.call.attempts.committed) s.call.buffer;
    live = map (linked row.place at.link) s.call.live;
    attempts = placed_attempts row.place at.moment s.call.attempts;
  };
  ledger = record s.ledger { rows = changed_at (placed_row at) s.ledger.rows row.place };
}

abbrev pub placed_live : LiveRow → Placed → Stepped → Stepped
placed_live row at s = if is_some row.link then s else placed_row_live row at s

abbrev pub placed_if_live : Option LiveRow → Placed → Stepped → Stepped
placed_if_live None at s = s
placed_if_live (Some row) at s = placed_live row at s

abbrev pub placed_at : ℕ → Placed → Stepped → Stepped
placed_at row at s = placed_if_live (find_live row s.call.live) at s

-- the next attempt
abbrev pub next_due : CallState → Option ℕ
next_due call = next_of_plan (call_plan call) call.attempts

abbrev pub made : ℕ → Stepped → Stepped
made due s =
    let t = row_added (min (s.call.attempts.sent + 1) 4294967295) (kind_of_next (call_plan s.call) s.call.attempts) due None s in
    with_attempts (made_attempts (next_place s.ledger) s.call.attempts) t

abbrev pub ended_by_last : Option ℕ → ℕ → Stepped → Stepped
ended_by_last None moment s = s
ended_by_last (Some last) moment s = if has_none s.call.live then ended_by_row last moment s else s

abbrev pub refused_due : ℕ → Stepped → Stepped
refused_due moment s = ended_by_last s.call.attempts.last moment (with_attempts (stopped_attempts s.call.attempts) s)

abbrev pub due_at : ℕ → ℕ → Stepped → Stepped
due_at moment due s =
    if is_tested (call_plan s.call) s.call.attempts && not (is_above s.tokens) then refused_due moment s else made due s

abbrev pub made_if : Option ℕ → ℕ → Stepped → Stepped
made_if None moment s = s
made_if (Some due) moment s = if nat_lt moment due then s else due_at moment due s

abbrev pub made_due : ℕ → Stepped → Stepped
made_due moment s = made_if (next_due s.call) moment s

-- what the application sends
abbrev pub send_refusal : CallState → Option Refusal
send_refusal call =
    if is_some call.ended then Some refusals.CallEnded else if call.is_finished then Some refusals.AfterFinish else None

abbrev pub full_with : ℕ → CallState → Option ℕ
full_with len call =
    if has_room (is_some call.attempts.committed) (is_some (furthest call.buffer call.live)) (held call.buffer) len then None
    else Some (held call.buffer)

abbrev pub committed_over : Bool → Option ℕ → ℕ → Stepped → Stepped
committed_over over None moment s = s
committed_over over (Some row) moment s = if over then committed row moment s else s

abbrev pub with_message : List ℕ → Option ℕ → CallState → CallState
with_message message row call =
    record call { longest = max call.longest (length message); buffer = pushed_buffer call.buffer (framed message) row }

abbrev pub accepted : List ℕ → ℕ → Stepped → Stepped
accepted message moment s =
    let row = furthest s.call.buffer s.call.live in
    committed_over (pushed_over s.call.buffer (framed message) row) row moment (record s { call = with_message message row s.call })

abbrev pub accepted_if : Option ℕ → List ℕ → ℕ → Stepped → Stepped
accepted_if None message moment s = accepted message moment s
accepted_if (Some held) message moment s = s

abbrev pub sent_free : List ℕ → ℕ → Stepped → Stepped
sent_free message moment s =
    if is_too_long s.call.chosen (length message) then ended_as ends.Request moment s
    else accepted_if (full_with (length message) s.call) message moment s

abbrev pub sent_if : Option Refusal → List ℕ → ℕ → Stepped → Stepped
sent_if None message moment s = sent_free message moment s
sent_if (Some refusal) message moment s = s

abbrev pub sent : List ℕ → ℕ → Stepped → Stepped
sent message moment s = sent_if (send_refusal s.call) message moment s

abbrev pub full_reply : Option ℕ → Reply
full_reply None = reply.Done
full_reply (Some held) = reply.Full held

abbrev pub sent_free_reply : List ℕ → CallState → Reply
sent_free_reply message call =
    if is_too_long call.chosen (length message) then reply.Done else full_reply (full_with (length message) call)

abbrev pub send_reply_if : Option Refusal → List ℕ → CallState → Reply
send_reply_if None message call = sent_free_reply message call
send_reply_if (Some refusal) message call = reply.Refused refusal

abbrev pub send_reply : List ℕ → CallState → Reply
send_reply message call = send_reply_if (send_refusal call) message call

abbrev pub can_send : ℕ → CallState → Bool
can_send len call = is_some (send_refusal call) || is_too_long call.chosen len || not (is_some (full_with len call))

-- what a row has still to send, and what it is fed
abbrev pub ready_of : ℕ → CallState → ℕ
ready_of row call = parts.ready_of row call.buffer

abbrev pub fed_row : ℕ → ℕ → CallState → CallState
fed_row row len call = record call { buffer = parts.fed_buffer row len call.buffer }

abbrev pub finish_reply_if : Option Refusal → Reply
finish_reply_if None = reply.Done
finish_reply_if (Some refusal) = reply.Refused refusal

abbrev pub finish_reply : CallState → Reply
finish_reply call = finish_reply_if (send_refusal call)

abbrev pub finished_if : Option Refusal → CallState → CallState
finished_if None call = record call { is_finished = true }
finished_if (Some refusal) call = call

abbrev pub finished : CallState → CallState
finished call = finished_if (send_refusal call) call

-- what the application takes
abbrev pub can_take : CallState → Bool
can_take call = call.inbox.is_end_taken || is_some call.inbox.head || not (has_none call.inbox.messages) || is_some call.ended

abbrev pub ended_reply : Option EndCause → Ledger → CallState → Reply
ended_reply None ledger call = reply.NotYet
ended_reply (Some why) ledger call = end_reply ledger.rows call.attempts.committed why

abbrev pub message_reply : Option (List ℕ) → Ledger → CallState → Reply
message_reply None ledger call = ended_reply call.ended ledger call
message_reply (Some octets) ledger call = reply.Message octets

abbrev pub item_reply : Option (List Field) → Ledger → CallState → Reply
item_reply None ledger call = message_reply (first_of call.inbox.messages) ledger call
item_reply (Some meta) ledger call = reply.Head meta

abbrev pub take_reply : Ledger → CallState → Reply
take_reply ledger call =
    if call.inbox.is_end_taken then reply.Refused refusals.CallEnded else item_reply call.inbox.head ledger call

abbrev pub taken_end : Option EndCause → CallState → CallState
taken_end None call = call
taken_end (Some why) call = record call { inbox = record call.inbox { is_end_taken = true } }

abbrev pub with_rest : CallState → CallState
with_rest call = record call { inbox = record call.inbox { messages = rest_of call.inbox.messages } }

abbrev pub taken_message : Option (List ℕ) → CallState → CallState
taken_message None call = taken_end call.ended (with_rest call)
taken_message (Some octets) call = with_rest call

abbrev pub without_head : CallState → CallState
without_head call = record call { inbox = record call.inbox { head = None } }

abbrev pub taken_item : Option (List Field) → CallState → CallState
taken_item None call = taken_message (first_of call.inbox.messages) (without_head call)
taken_item (Some meta) call = without_head call

abbrev pub taken : CallState → CallState
taken call = if call.inbox.is_end_taken then call else taken_item call.inbox.head call

abbrev pub waits : CallState → Bool
waits call = waits_for call.request call.chosen

abbrev pub deadline_at : CallState → Option ℕ
deadline_at call = deadline_of call.begun call.request call.chosen

-- the channel ends the call
abbrev pub closed_by : EndCause → ℕ → Stepped → Stepped
closed_by why moment s = ended_if (not (is_some s.call.ended)) why moment s

abbrev pub timed_out_if : Option ℕ → ℕ → Stepped → Stepped
timed_out_if None moment s = s
timed_out_if (Some deadline) moment s = if nat_le deadline moment then closed_by ends.Deadline moment s else s

abbrev pub timed_out : ℕ → Stepped → Stepped
timed_out moment s = timed_out_if (deadline_at s.call) moment s

abbrev pub cancelled : ℕ → Stepped → Stepped
cancelled moment s = closed_by ends.Cancelled moment s

abbrev pub cancel_reply : CallState → Reply
cancel_reply call = if is_some call.ended then reply.Refused refusals.CallEnded else reply.Done
