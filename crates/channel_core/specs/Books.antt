-- Nobody has to believe these steps: what the code does to the calls and the ledger, one definition for each function.
use Rattle.std.specs.Prelude.{codes, ℕ, ◌+◌, ◌-◌, Bool, true, false, min, max, if◌then◌else◌, Option, Some, None, List, [], ◌∷◌, ◌++◌, length}
use Rattle.std.specs.Option.{is_some, is_none, option_map}
use Rattle.grpc_base.specs.Limits.{duration_limit}
use Rattle.grpc_base.specs.Requests.{RequestSeen}
use Rattle.grpc_base.specs.declared.event.Refusal.{Refusal}
use Rattle.grpc_base.specs.declared.event.Refusal.TheVariants as refusal
use Rattle.grpc_base.specs.declared.fields.Field.{Field}
use Rattle.grpc_base.specs.declared.plan.Chosen.{Chosen}
use Rattle.grpc_base.specs.declared.plan.Throttle.{Throttle}
use Rattle.grpc_meta.specs.RequestFields.{fields_of_request}
use Rattle.attempt_ledger.specs.declared.ledger.Ledger.{Ledger}
use Rattle.attempt_ledger.specs.declared.ledger.LinkSeen.{LinkSeen}
use Rattle.attempt_ledger.specs.declared.row.Placed.{Placed}
use Rattle.attempt_ledger.specs.declared.row.Row.{Row}
use Rattle.attempt_ledger.specs.declared.row.RowEnd.{RowEnd}
use Rattle.a6_numbers.specs.Throttling.{Bucket}
use Rattle.call_core.specs.declared.act.CallAct.{CallAct}
use Rattle.call_core.specs.Steps as step
use Rattle.call_core.specs.Steps.{Stepped, configured, deadline_at, new_call, next_due, waits}
use Rattle.ledger_stamps.specs.Steps.{begun_call}
use Rattle.h2_link.specs.Feeds.{Line}
use Rattle.channel_core.specs.declared.state.book.Book.{Book}
use Rattle.channel_core.specs.declared.state.slots.CallSlot.{CallSlot}
use Rattle.channel_core.specs.Tables.{Acted, acted, changed_call, changed_slot, followed, last_run, left_at, numbered, tokens_in, with_bucket, with_timers, with_tokens, without_due}

-- the empty ledger
abbrev pub no_ledger : Ledger
no_ledger = record { rows = []; calls = []; asks = []; generations = []; links = []; entry = 0 }

-- where a step begins
abbrev pub begun_step : ℕ → ℕ → Book → Book
begun_step entry moment b = record b { ledger = record b.ledger { entry = entry }; moment = moment }

-- look-ups
abbrev pub row_at : Book → ℕ → Option Row
row_at b place = numbered b.ledger.rows place

abbrev pub link_at : Book → ℕ → Option LinkSeen
link_at b link = numbered b.ledger.links link

abbrev pub slot_at : Book → ℕ → Option CallSlot
slot_at b call = numbered b.calls call

abbrev pub call_of : Option Row → ℕ
call_of None = 0
call_of (Some row) = row.call

abbrev pub link_of_placed : Option Placed → ℕ
link_of_placed None = 0
link_of_placed (Some placed) = placed.link

abbrev pub link_of : Option Row → ℕ
link_of None = 0
link_of (Some row) = link_of_placed row.placed

abbrev pub has_ended : Option Row → Bool
has_ended None = true
has_ended (Some row) = is_some row.ended

abbrev pub has_stream : Option Row → Bool
has_stream None = false
has_stream (Some row) = is_some row.stream

abbrev pub drew_by : Option RowEnd → Bool
drew_by None = false
drew_by (Some end) = is_some end.word

abbrev pub has_drawn : Option Row → Bool
has_drawn None = false
has_drawn (Some row) = drew_by row.ended

abbrev pub lacks_call : Option CallSlot → Option Refusal
lacks_call None = Some refusal.NoSuchCall
lacks_call (Some slot) = None

abbrev pub waits_at : Option CallSlot → Bool
waits_at None = false
waits_at (Some slot) = waits slot.call

abbrev pub limit_in : Option Chosen → ℕ
limit_in None = 0
limit_in (Some chosen) = chosen.response

abbrev pub limit_at : Option CallSlot → ℕ
limit_at None = 0
limit_at (Some slot) = limit_in slot.call.chosen

abbrev pub bucket_at : Option CallSlot → ℕ
bucket_at None = 0
bucket_at (Some slot) = slot.bucket

abbrev pub due_at : Option CallSlot → Option ℕ
due_at None = None
due_at (Some slot) = if is_none slot.call.ended then next_due slot.call else None

abbrev pub deadline_of : Option CallSlot → Option ℕ
deadline_of None = None
deadline_of (Some slot) = if is_none slot.call.ended then deadline_at slot.call else None

abbrev pub due_set : Option CallSlot → Option ℕ
due_set None = None
due_set (Some slot) = slot.due

abbrev pub deadline_set : Option CallSlot → Option ℕ
deadline_set None = None
deadline_set (Some slot) = slot.deadline

-- a call does something
pub record BookActs : Type 0 where
  pub book : Book
  pub acts : List CallAct

abbrev pub book_after : ℕ → Option Bucket → Acted → Book → Book
book_after bucket tokens a b = record b { calls = a.calls; ledger = a.ledger; buckets = with_tokens bucket tokens (with_tokens bucket None b.buckets) }

abbrev pub acted_in : (Stepped → Stepped) → ℕ → ℕ → Book → BookActs
acted_in f call bucket b =
    let a = acted f b.calls call b.ledger (tokens_in b.buckets bucket) in record { book = book_after bucket a.tokens a b; acts = a.acts }

abbrev pub book_acted : (Stepped → Stepped) → ℕ → Book → BookActs
book_acted f call b = acted_in f call (bucket_at (slot_at b call)) b

-- the same, where the tokens are only looked at, or there are none
abbrev pub placed_in_book : Acted → Book → BookActs
placed_in_book a b = record { book = record b { calls = a.calls; ledger = a.ledger }; acts = a.acts }

abbrev pub book_asked : (Stepped → Stepped) → ℕ → Book → BookActs
book_asked f call b = placed_in_book (acted f b.calls call b.ledger (tokens_in b.buckets (bucket_at (slot_at b call)))) b

-- the configuration: the bucket of a call that has none yet is that of the config that is held
abbrev pub bucket_set : ℕ → Book → List CallSlot
bucket_set call b = changed_slot (with_bucket (last_run b.buckets)) b.calls call

abbrev pub book_configured : Chosen → ℕ → Book → BookActs
book_configured chosen call b = placed_in_book (acted (configured chosen b.moment) (bucket_set call b) call b.ledger None) b

-- a placing
abbrev pub book_placed : ℕ → Placed → ℕ → Book → BookActs
book_placed row at call b = placed_in_book (acted (step.placed_at row at) b.calls call b.ledger None) b

-- what an application does with a call
abbrev pub book_finished : ℕ → Book → Book
book_finished call b = record b { calls = changed_call step.finished b.calls call }

abbrev pub book_taken : ℕ → Book → Book
book_taken call b = record b { calls = changed_call step.taken b.calls call }

abbrev pub can_take_at : Option CallSlot → Bool
can_take_at None = true
can_take_at (Some slot) = step.can_take slot.call

abbrev pub can_send_at : ℕ → Option CallSlot → Bool
can_send_at len None = true
can_send_at len (Some slot) = step.can_send len slot.call

-- a call begins
abbrev pub fresh_slot : ℕ → RequestSeen → ℕ → CallSlot
fresh_slot number request moment = record { call = new_call number request moment; bucket = 0; due = None; deadline = None }

abbrev pub book_begun : RequestSeen → Book → Book
book_begun request b = record b {
  calls = b.calls ++ fresh_slot (length b.ledger.calls + 1) request b.moment ∷ [];
  ledger = record b.ledger { calls = b.ledger.calls ++ begun_call b.ledger.entry ∷ [] };
}

abbrev pub book_followed : Option Throttle → Book → Book
book_followed throttle b = record b { buckets = followed throttle b.buckets }

abbrev pub timers_set : Option ℕ → Option ℕ → ℕ → Book → Book
timers_set due deadline call b = record b { calls = changed_slot (with_timers due deadline) b.calls call }

abbrev pub due_forgotten : ℕ → Book → Book
due_forgotten call b = record b { calls = changed_slot without_due b.calls call }

-- what links are lent: a tag is the place of a row. A tag that names none has a request of one field, so that no link can ask for
-- what is not there.
abbrev pub blank_request : List Field
blank_request = record { name = codes ":method"; value = codes "POST" } ∷ []

abbrev pub clamped : ℕ → ℕ → ℕ
clamped moment deadline = min (max (deadline - moment) 1) duration_limit

abbrev pub left_until : ℕ → Option ℕ → Option ℕ
left_until moment deadline = option_map (clamped moment) deadline

abbrev pub head_for : Book → Row → Option CallSlot → List Field
head_for b row None = blank_request
head_for b row (Some slot) = fields_of_request slot.call.request b.authority (left_until b.moment (deadline_at slot.call)) (max row.number 1)

abbrev pub head_of : Book → Option Row → List Field
head_of b None = blank_request
head_of b (Some row) = head_for b row (slot_at b row.call)

abbrev pub finished_at : Option CallSlot → Bool
finished_at None = false
finished_at (Some slot) = slot.call.is_finished

abbrev pub slot_of_tag : Book → ℕ → Option CallSlot
slot_of_tag b tag = slot_at b (call_of (row_at b tag))

abbrev pub lines_of : Book → ℕ → Line
lines_of b tag = record {
  held = true;
  fields = head_of b (row_at b tag);
  left = left_at tag (slot_of_tag b tag);
  finished = finished_at (slot_of_tag b tag);
}
