-- A call without an attempt ends in the channel: it leaves the sets of calls without a config, and nothing is cut off.
use Rattle.std.proofs.Common.{◌≡◌, ◌∙◌, ◌++◌, ◌-◌, ◌==◌, ℕ, false, List, [], ◌∷◌, sym, ap, Option, Some, None, is_some, not, slice_set}
use Rattle.std.specs.Set.{remove_key}
use Rattle.a6_numbers.specs.Throttling.{Bucket}
use Rattle.attempt_ledger.specs.declared.ledger.Ledger.{Ledger}
use Rattle.call_core.specs.Steps as call
use Rattle.call_core.specs.Steps.{Stepped, lent, reported_all}
use Rattle.call_core.specs.declared.act.CallAct.{CallAct}
use Rattle.call_core.specs.declared.act.CallAct.TheVariants as act
use Rattle.call_core.specs.declared.live.LiveRow.{LiveRow}
use Rattle.call_core.specs.declared.state.CallState.{CallState}
use Rattle.channel_core.proofs.Places.{put_there}
use Rattle.channel_core.specs.Books.{BookActs, book_asked, deadline_of, due_at, slot_at}
use Rattle.channel_core.specs.States.{StateSeen}
use Rattle.channel_core.specs.Steps.{closed, given_config, followed, links_sealed, resets_taken, sealed, timers_moved}
use Rattle.channel_core.specs.Tables.{changed_slot, numbered, tokens_in, with_call, with_timers}
use Rattle.channel_core.specs.declared.state.book.Book.{Book}
use Rattle.channel_core.specs.declared.state.slots.CallSlot.{CallSlot}
use Rattle.channel_actions.proofs.Links.Settings.Slots.{asked_is, changed_slot_is, put_away}
use Rattle.grpc_base.specs.declared.event.EndCause.{EndCause}
use Rattle.picker_gate.specs.Pairs.{is_same}
use Rattle.channel_actions.proofs.Links.Settings.Keys.{head_out}

closed_acts : (why : EndCause) (c : CallState) (l : Ledger) (tokens : Option Bucket) (m : ℕ) → c.live ≡ [] → c.ended ≡ None
    → (call.closed_by why m (lent c l tokens [])).acts ≡ act.End why ∷ []
closed_acts why c l tokens m live open_now =
    ap (λ (e : Option EndCause). (call.ended_if (not (is_some e)) why m (lent c l tokens [])).acts) open_now
    ∙ ap (λ (rows : List LiveRow). reported_all None rows [] ++ act.End why ∷ []) live

module _ (why : EndCause) (n : ℕ) (slot : CallSlot) (live : slot.call.live ≡ []) (open_now : slot.call.ended ≡ None) where
  abbrev booked : StateSeen → BookActs
  booked s = book_asked (call.closed_by why s.book.moment) n s.book

  -- without the acts of the call
  abbrev pub closed_plain : StateSeen → StateSeen
  closed_plain s = record (timers_moved n (given_config n (record s { book = (booked s).book }))) { resets = [] }

  acts_are : (s : StateSeen) → slot_at s.book n ≡ Some slot → (booked s).acts ≡ act.End why ∷ []
  acts_are s there =
      ap (λ (b : BookActs). b.acts) (asked_is (call.closed_by why s.book.moment) n s.book slot there)
      ∙ closed_acts why slot.call s.book.ledger (tokens_in s.book.buckets slot.bucket) s.book.moment live open_now

  abbrev given_config_in : StateSeen → StateSeen
  given_config_in s = timers_moved n (given_config n (record s { book = (booked s).book }))

  pub closed_is : (s : StateSeen) → slot_at s.book n ≡ Some slot → s.resets ≡ [] → closed why n s ≡ closed_plain s
  closed_is s there unreset =
      ap (λ (acts : List CallAct). sealed (followed n acts (record s { book = (booked s).book }))) (acts_are s there)
      ∙ ap (λ (links : List ℕ). links_sealed links (resets_taken (given_config_in s))) unreset

  -- where it is the first of those that do not wait for ready, it leaves the others
  pub closed_first : (z : StateSeen) (rest : List (ℕ × ℕ)) → slot_at z.book n ≡ Some slot → z.resets ≡ [] → closed why n (record z { fail_fast = (0, n) ∷ rest }) ≡ record (closed why n z) { fail_fast = rest }
  closed_first z rest there unreset =
      closed_is (record z { fail_fast = (0, n) ∷ rest }) there unreset
      ∙ ap (λ (l : List (ℕ × ℕ)). record (closed_plain z) { fail_fast = l }) (head_out (0, n) rest)
      ∙ sym (ap (λ (y : StateSeen). record y { fail_fast = rest }) (closed_is z there unreset))

  pub closed_last : (z : StateSeen) → slot_at z.book n ≡ Some slot → z.resets ≡ [] → z.fail_fast ≡ [] → (closed why n z).fail_fast ≡ []
  closed_last z there unreset none =
      ap (λ (y : StateSeen). y.fail_fast) (closed_is z there unreset) ∙ ap (remove_key (is_same (0, n))) none

  -- the other calls, the net, the moment and what configs came are as they were
  abbrev slots_moved : Book → List CallSlot
  slots_moved b = changed_slot (with_timers (due_at (slot_at b n)) (deadline_of (slot_at b n))) b.calls n

  abbrev after_step : StateSeen → Stepped
  after_step s = call.closed_by why s.book.moment (lent slot.call s.book.ledger (tokens_in s.book.buckets slot.bucket) [])

  abbrev slot_after : StateSeen → CallSlot
  slot_after s = with_call (after_step s).call slot

  abbrev book_with : StateSeen → CallSlot → Book
  book_with s v = record s.book { calls = slice_set s.book.calls (n - 1) v; ledger = (after_step s).ledger }

  slots_are : (s : StateSeen) → slot_at s.book n ≡ Some slot
      → slots_moved (booked s).book ≡ slice_set (slice_set s.book.calls (n - 1) (slot_after s)) (n - 1)
      (with_timers (due_at (slot_at (book_with s (slot_after s)) n)) (deadline_of (slot_at (book_with s (slot_after s)) n)) (slot_after s))
  slots_are s there =
      ap (λ (b : BookActs). slots_moved b.book) (asked_is (call.closed_by why s.book.moment) n s.book slot there)
      ∙ changed_slot_is (with_timers (due_at (slot_at (book_with s (slot_after s)) n)) (deadline_of (slot_at (book_with s (slot_after s)) n)))
      (slice_set s.book.calls (n - 1) (slot_after s)) n (slot_after s) (put_there s.book.calls n slot (slot_after s) there)

  pub closed_away : (s : StateSeen) (m : ℕ) → slot_at s.book n ≡ Some slot → s.resets ≡ [] → (m == n) ≡ false → slot_at (closed why n s).book m ≡ slot_at s.book m
  closed_away s m there unreset away =
      let v : CallSlot = slot_after s in
      ap (λ (y : StateSeen). slot_at y.book m) (closed_is s there unreset) ∙ ap (λ (l : List CallSlot). numbered l m) (slots_are s there)
      ∙ put_away (slice_set s.book.calls (n - 1) v) n m v _ (put_there s.book.calls n slot v there) away ∙ put_away s.book.calls n m slot v there away

  pub closed_net : (s : StateSeen) → slot_at s.book n ≡ Some slot → s.resets ≡ [] → (closed why n s).net ≡ s.net
  closed_net s there unreset = ap (λ (y : StateSeen). y.net) (closed_is s there unreset)

  pub closed_moment : (s : StateSeen) → slot_at s.book n ≡ Some slot → s.resets ≡ [] → (closed why n s).book.moment ≡ s.book.moment
  closed_moment s there unreset = ap (λ (y : StateSeen). y.book.moment) (closed_is s there unreset)

  pub closed_held : (s : StateSeen) → slot_at s.book n ≡ Some slot → s.resets ≡ [] → (closed why n s).held ≡ s.held
  closed_held s there unreset = ap (λ (y : StateSeen). y.held) (closed_is s there unreset)

  pub closed_unconfigured : (s : StateSeen) → slot_at s.book n ≡ Some slot → s.resets ≡ [] → (closed why n s).unconfigured ≡ s.unconfigured
  closed_unconfigured s there unreset = ap (λ (y : StateSeen). y.unconfigured) (closed_is s there unreset)
