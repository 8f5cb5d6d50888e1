-- The slot of every other call agrees as before.
use Rattle.a6_numbers.specs.Throttling.{Bucket}
use Rattle.attempt_ledger.specs.declared.ledger.CallSeen.{CallSeen}
use Rattle.call_actions.proofs.Ranks.{numbered_map}
use Rattle.call_core.specs.Steps.{lent}
use Rattle.call_actions.proofs.CallsApart.Seen.{all_numbered, others_are_in_order, others_are_in_turn}
use Rattle.call_actions.specs.CallsApart.Apart.{IsApart, has_config, run_number}
use Rattle.call_actions.specs.CallsApart.Laws.{IsRecorded, tokens_in_run}
use Rattle.channel_actions.specs.Calls.{HasSlot, SeesCalls, ledger_lent}
use Rattle.channel_actions.specs.Configs.{bucket_place}
use Rattle.channel_core.specs.States.{StateSeen}
use Rattle.channel_core.specs.Tables.{tokens_in}
use Rattle.channel_core.specs.declared.state.slots.CallSlot.{CallSlot}
use Rattle.call_cases.proofs.OtherCalls.Along.{goes_received, goes_on}
use Rattle.call_cases.proofs.OtherCalls.Buckets.{place_same, tokens_same}
use Rattle.call_cases.proofs.OtherCalls.Grows.{GrowsBut}
use Rattle.call_cases.proofs.OtherCalls.Rows.{apart_at, calls_same, off_of, own_of}
use Rattle.call_cases.specs.OtherCalls.Laws.{AllCallsStay, CallsStay}
use Rattle.call_cases.specs.OtherCalls.Others.{BooksApart, GoesApart}
use Rattle.session_actions.specs.Calls.{is_open_call}
use Rattle.session_actions.specs.Sessions.{call_seen}
use Rattle.session_actions.specs.Words.{numbered}
use Rattle.session_actions.specs.declared.call.Call.{Call}
use Rattle.session_actions.specs.declared.seen.Seen.{Seen}
use Rattle.std.proofs.Common.{Bool, List, None, Option, Some, [], ap, eqb-true, false, if◌then◌else◌, length, option_map, refl, subst, sym, true, ℕ, ◌==◌, ◌∙◌, ◌≡◌}
use Rattle.call_actions.specs.TakeActions.Serves.{Serves}
use Rattle.call_actions.proofs.TakesApart.Served.{deadlines_stay, others_are_due, others_are_served}
use Rattle.call_actions.specs.TakesApart.Received.{IsReceivedAlike}

module _ (number : ℕ) (x y : StateSeen) (s t : Seen) (g : GoesApart number s t) (b : BooksApart number x y t) where
  module _ (k : ℕ) (c : Call) (off : (k == number) ≡ false) (at : numbered s.calls k ≡ Some c) (slot : CallSlot) where
    apart : IsApart s t c
    apart = apart_at number s t g k c at off

    own : numbered s.calls c.number ≡ Some c
    own = own_of number s t g k c at

    own_now : numbered t.calls c.number ≡ Some c
    own_now = apart.call ∙ own

    handled : IsReceivedAlike s t c
    handled = goes_received number c (off_of number s t g k c at off) s t g own

    has : has_config s c ≡ true
    has = all_numbered (has_config s) s.calls k c g.earlier.book.configs at

    has_now : has_config t c ≡ true
    has_now = all_numbered (has_config t) t.calls c.number c g.later.book.configs own_now

    place : bucket_place t c ≡ bucket_place s c
    place =
        let grown : GrowsBut number s t = goes_on number s t g in place_same s t c has grown.configs

    recorded : IsRecorded t c (ledger_lent y t)
    recorded = record {
      entry_is = b.entry_is;
      rows = b.columns.rows;
      call_is = ap (λ (l : List CallSeen). numbered l c.number) (sym b.columns.calls) ∙ numbered_map (call_seen t) t.calls c.number ∙ ap (option_map (call_seen t)) own_now;
    }

    tokens : bucket_place s c ≡ slot.bucket → tokens_in_run t (run_number c t) ≡ tokens_in y.book.buckets slot.bucket
    tokens here =
        sym (tokens_same t y.book.buckets c b.buckets has_now) ∙ ap (tokens_in y.book.buckets) (place ∙ here)

  pub slot_stays : (k : ℕ) (c : Call) → (k == number) ≡ false → numbered s.calls k ≡ Some c → HasSlot x s c k → HasSlot y t c k
  slot_stays k c off at h =
      let a : IsApart s t c = apart k c off at h.slot in
      let mine : numbered s.calls c.number ≡ Some c = own k c off at h.slot in
      let served : Serves t c (lent h.slot.call (ledger_lent y t) (tokens_in_run t (run_number c t)) [])
      = others_are_served s t c (lent h.slot.call (ledger_lent x s) (tokens_in x.book.buckets h.slot.bucket) []) (ledger_lent y t) [] a (handled k c off at h.slot) g.later.book
      h.sees.serves h.sees.order (recorded k c off at h.slot) (record { links = refl; reads = g.later.reads }) in
      record {
        slot = h.slot;
        there = b.slots k off ∙ h.there;
        sees = record {
          bucket = place k c off at h.slot ∙ h.sees.bucket;
          serves = subst (λ (z : Option Bucket). Serves t c (lent h.slot.call (ledger_lent y t) z [])) (tokens k c off at h.slot h.sees.bucket) served;
          order = others_are_in_order s t c a g.later.book mine h.sees.order;
          turn = others_are_in_turn s t c a g.later.book mine h.sees.order h.sees.turn;
          due = ap (λ (o : Option ℕ). if is_open_call c then o else None) (others_are_due s t c a mine h.sees.order) ∙ h.sees.due;
          deadline_is = ap (λ (o : Option ℕ). if is_open_call c then o else None) (deadlines_stay s t c a) ∙ h.sees.deadline_is;
        };
      }

  all_by : SeesCalls x s → ((c : Call) → numbered t.calls number ≡ Some c → HasSlot y t c number) → (k : ℕ) (c : Call) (test : Bool) → (k == number) ≡ test
      → numbered t.calls k ≡ Some c → HasSlot y t c k
  all_by h given k c true is at =
      let same : k ≡ number = eqb-true k number is in
      subst (λ (n : ℕ). HasSlot y t c n) (sym same) (given c (ap (numbered t.calls) (sym same) ∙ at))
  all_by h given k c false is at =
      let before : numbered s.calls k ≡ Some c = sym (calls_same number s t g k is) ∙ at in
      slot_stays k c is before (h.each k c before)

  pub all_slots_stay : SeesCalls x s → length t.calls ≡ length y.book.calls → ((c : Call) → numbered t.calls number ≡ Some c → HasSlot y t c number) → SeesCalls y t
  all_slots_stay h count given = record { count = count; each = λ k c at. all_by h given k c (k == number) refl at }

pub calls_stay : CallsStay
calls_stay number x y s t g b k c off at h = slot_stays number x y s t g b k c off at h

pub all_calls_stay : AllCallsStay
all_calls_stay number x y s t g b h count given = all_slots_stay number x y s t g b h count given
