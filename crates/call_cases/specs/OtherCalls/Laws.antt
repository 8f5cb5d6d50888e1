-- Every other call agrees as before, whatever happens to one: its slot, its part of the ledger, its attempts, and its places in the channel's sets.
-- Example: call 2 takes its head. The slot of call 1 still is what the session has of call 1; and a pair of the deadlines that names call 1 is due as before.
use Rattle.std.specs.Prelude.{Some, false, length, option_map, true, ℕ, ◌==◌, ◌≡◌}
use Rattle.call_actions.specs.CallsApart.Apart.{has_config, run_number}
use Rattle.call_actions.specs.CallsApart.Laws.{tokens_in_run}
use Rattle.channel_actions.specs.Calls.{HasSlot, SeesCalls}
use Rattle.channel_actions.specs.Configs.{SeesBuckets, bucket_place}
use Rattle.channel_actions.specs.Sets.{is_awaiting_config, is_in_deadlines, is_in_dues, is_in_fail_fast, is_in_outstanding, is_in_ready_waiters, is_in_queue}
use Rattle.channel_core.specs.States.{StateSeen}
use Rattle.channel_core.specs.Tables.{BucketsSeen, tokens_in}
use Rattle.call_cases.specs.OtherCalls.Others.{BooksApart, GoesApart, is_of_number}
use Rattle.session_actions.specs.Sessions.{call_seen}
use Rattle.session_actions.specs.Words.{numbered}
use Rattle.session_actions.specs.declared.call.Call.{Call}
use Rattle.session_actions.specs.declared.seen.Seen.{Seen}

-- the slot of every other call still agrees, with the ledger, the buckets and the links that there are then; its next due moment and its deadline are the same
abbrev pub CallsStay : Type 0
CallsStay =
    (number : ℕ) (x y : StateSeen) (s t : Seen) → GoesApart number s t → BooksApart number x y t
    → (k : ℕ) (c : Call) → (k == number) ≡ false → numbered s.calls k ≡ Some c → HasSlot x s c k → HasSlot y t c k

-- so all calls agree, where that of the number does
abbrev pub AllCallsStay : Type 0
AllCallsStay =
    (number : ℕ) (x y : StateSeen) (s t : Seen) → GoesApart number s t → BooksApart number x y t → SeesCalls x s → length t.calls ≡ length y.book.calls
    → ((c : Call) → numbered t.calls number ≡ Some c → HasSlot y t c number) → SeesCalls y t

-- of the session: the other calls are the same, and their part of the ledger; and so is each row that is of none but another call. (No other call begins.)
abbrev pub OthersAreSame : Type 0
OthersAreSame =
    (number : ℕ) (s t : Seen) → GoesApart number s t → (k : ℕ) → (k == number) ≡ false → numbered t.calls k ≡ numbered s.calls k

abbrev pub ColumnsStay : Type 0
ColumnsStay =
    (number : ℕ) (s t : Seen) → GoesApart number s t → (k : ℕ) → (k == number) ≡ false
    → option_map (call_seen t) (numbered t.calls k) ≡ option_map (call_seen s) (numbered s.calls k)

abbrev pub RowsStay : Type 0
RowsStay =
    (number : ℕ) (s t : Seen) → GoesApart number s t → (row : ℕ) → is_of_number number (numbered t.attempts row) ≡ false
    → numbered t.attempts row ≡ numbered s.attempts row

-- the channel's sets: what they say of other calls, and the outstanding attempts of other calls by row
pub record SetsApart (number : ℕ) (s t : Seen) : Type 0 where
  pub queue : (k row : ℕ) → (k == number) ≡ false → is_in_queue t k row ≡ is_in_queue s k row
  pub ready_waiters : (k row : ℕ) → (k == number) ≡ false → is_in_ready_waiters t k row ≡ is_in_ready_waiters s k row
  pub dues : (moment k : ℕ) → (k == number) ≡ false → is_in_dues t moment k ≡ is_in_dues s moment k
  pub deadlines : (moment k : ℕ) → (k == number) ≡ false → is_in_deadlines t moment k ≡ is_in_deadlines s moment k
  pub awaiting_config : (zero_ k : ℕ) → (k == number) ≡ false → is_awaiting_config t zero_ k ≡ is_awaiting_config s zero_ k
  pub fail_fast : (zero_ k : ℕ) → (k == number) ≡ false → is_in_fail_fast t zero_ k ≡ is_in_fail_fast s zero_ k
  pub outstanding : (link row : ℕ) → is_of_number number (numbered t.attempts row) ≡ false → is_in_outstanding t link row ≡ is_in_outstanding s link row

abbrev pub SetsStay : Type 0
SetsStay = (number : ℕ) (x : StateSeen) (s t : Seen) → GoesApart number s t → SeesCalls x s → SetsApart number s t

-- the bucket that the channel lends a call is that of the run of its config (gRFC A6, "Throttling Retry Attempts and Hedged RPCs")
abbrev pub BucketsAreOfRuns : Type 0
BucketsAreOfRuns =
    (s : Seen) (b : BucketsSeen) (c : Call) → SeesBuckets b s → has_config s c ≡ true → tokens_in b (bucket_place s c) ≡ tokens_in_run s (run_number c s)
