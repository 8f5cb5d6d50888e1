-- A hedge is withheld where no attempt of its call goes on: what the channel then is. The call is committed to the attempt whose end counted last, and ends by it.
-- Example: attempt 1 of call 1 ended with a code of hedgingPolicy, and the next hedge is due, but too few tokens are left. The call ends with this code.
use Rattle.call_core.specs.Parts.{is_above, is_tested, stopped_attempts}
use Rattle.call_core.specs.Steps as steps
use Rattle.call_core.specs.Steps.{Stepped, call_plan, ended_by_last, ended_by_row, lent, with_attempts}
use Rattle.call_core.specs.declared.live.LiveRow.{LiveRow}
use Rattle.channel_actions.proofs.Links.Settings.Slots.{asked_is, changed_slot_is, set_twice}
use Rattle.call_cases.specs.ConfiguredCalls.Steps.{timed}
use Rattle.channel_core.proofs.Places.{put_there}
use Rattle.channel_core.specs.Books.{BookActs, deadline_of, due_at, placed_in_book, slot_at}
use Rattle.channel_core.specs.States.{StateSeen}
use Rattle.channel_core.specs.Steps.{call_asked, links_sealed, made_one, resets_taken, sealed, timers_moved, timers_moved_to, with_book}
use Rattle.channel_core.specs.Tables.{acted_as, changed_slot, tokens_in, with_call, with_timers}
use Rattle.channel_core.specs.Timing.{timer_moved}
use Rattle.channel_core.specs.declared.state.slots.CallSlot.{CallSlot}
use Rattle.picker_gate.specs.Pairs.{is_same}
use Rattle.std.proofs.Common.{Bool, List, Option, Some, [], ap, false, if◌then◌else◌, nat_lt, not, slice_set, sym, true, ℕ, ◌&&◌, ◌-◌, ◌∙◌, ◌≡◌}
use Rattle.std.specs.Set.{remove_key}

-- a call with other rows that go on, of which no further attempt is made
abbrev stopped_with : Stepped → List LiveRow → Stepped
stopped_with z live = record z { call = record z.call { live = live; attempts = stopped_attempts z.call.attempts } }

-- what it then is, where none goes on
abbrev pub ended_last : ℕ → ℕ → Stepped → Stepped
ended_last place moment z = ended_by_row place moment (stopped_with z [])

pub refused_last : (place moment : ℕ) (z : Stepped) → z.call.attempts.last ≡ Some place → z.call.live ≡ [] → steps.refused_due moment z ≡ ended_last place moment z
refused_last place moment z last none =
    ap (λ (q : Option ℕ). ended_by_last q moment (with_attempts (stopped_attempts z.call.attempts) z)) last
    ∙ ap (λ (live : List LiveRow). ended_by_last (Some place) moment (stopped_with z live)) none

-- the hedge is due, and too few tokens are left
pub record IsRefused (moment due : ℕ) (z : Stepped) : Type 0 where
  pub next : steps.next_due z.call ≡ Some due
  pub passed : nat_lt moment due ≡ false
  pub tested : (is_tested (call_plan z.call) z.call.attempts && not (is_above z.tokens)) ≡ true

pub made_last : (place moment due : ℕ) (z : Stepped) → IsRefused moment due z → z.call.attempts.last ≡ Some place → z.call.live ≡ [] → steps.made_due moment z ≡ ended_last place moment z
made_last place moment due z is last none =
    ap (λ (q : Option ℕ). steps.made_if q moment z) is.next ∙ ap (λ (b : Bool). if b then z else steps.due_at moment due z) is.passed
    ∙ ap (λ (b : Bool). if b then steps.refused_due moment z else steps.made due z) is.tested ∙ refused_last place moment z last none

module _ (n place due : ℕ) (slot : CallSlot) (x : StateSeen) (there : slot_at x.book n ≡ Some slot)
    (is : IsRefused x.book.moment due (lent slot.call x.book.ledger (tokens_in x.book.buckets slot.bucket) [])) (last : slot.call.attempts.last ≡ Some place) (none : slot.call.live ≡ [])
    (unsealed : x.resets ≡ []) where
  abbrev z : Stepped
  z = lent slot.call x.book.ledger (tokens_in x.book.buckets slot.bucket) []

  abbrev st : Stepped
  st = ended_last place x.book.moment z

  abbrev slot1 : CallSlot
  slot1 = with_call st.call slot

  abbrev calls1 : List CallSlot
  calls1 = slice_set x.book.calls (n - 1) slot1

  abbrev cleared : StateSeen
  cleared = record x {
    awaiting_config = remove_key (is_same (0, n)) x.awaiting_config;
    fail_fast = remove_key (is_same (0, n)) x.fail_fast;
    book = record x.book { calls = calls1; ledger = st.ledger };
  }

  -- the slot of the call then, and the channel
  abbrev pub slot2 : CallSlot
  slot2 = timed slot1

  abbrev pub y : StateSeen
  y = record x {
    awaiting_config = remove_key (is_same (0, n)) x.awaiting_config;
    fail_fast = remove_key (is_same (0, n)) x.fail_fast;
    dues = timer_moved n slot.due (due_at (Some slot1)) x.dues;
    deadlines = timer_moved n slot.deadline (deadline_of (Some slot1)) x.deadlines;
    book = record x.book { calls = slice_set x.book.calls (n - 1) slot2; ledger = st.ledger };
  }

  there1 : slot_at cleared.book n ≡ Some slot1
  there1 = put_there x.book.calls n slot slot1 there

  asked : call_asked (steps.made_due x.book.moment) n x ≡ timers_moved n cleared
  asked =
      ap (λ (b : BookActs). with_book b n x)
      (asked_is (steps.made_due x.book.moment) n x.book slot there
      ∙ ap (λ (s : Stepped). placed_in_book (acted_as x.book.calls (n - 1) slot s) x.book) (made_last place x.book.moment due z is last none))

  calls_are : changed_slot (with_timers (due_at (Some slot1)) (deadline_of (Some slot1))) calls1 n ≡ slice_set x.book.calls (n - 1) slot2
  calls_are =
      changed_slot_is (with_timers (due_at (Some slot1)) (deadline_of (Some slot1))) calls1 n slot1 there1 ∙ set_twice x.book.calls (n - 1) slot1 slot2

  timers_are : timers_moved n cleared ≡ y
  timers_are =
      ap (λ (q : Option CallSlot). timers_moved_to n q cleared) there1 ∙ ap (λ (l : List CallSlot). record y { book = record y.book { calls = l } }) calls_are

  sealed_is : sealed y ≡ y
  sealed_is = ap (λ (l : List ℕ). links_sealed l (resets_taken y)) unsealed ∙ ap (λ (l : List ℕ). record y { resets = l }) (sym unsealed)

  pub last_is : made_one n x ≡ y
  last_is = ap sealed (asked ∙ timers_are) ∙ sealed_is
