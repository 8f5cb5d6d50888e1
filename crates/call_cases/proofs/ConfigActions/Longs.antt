-- A call gets its config in the channel, and ends at once, as a message is too long for it: this is the end of a call that has got its config.
use Rattle.std.proofs.Common.{◌≡◌, ◌∙◌, ◌&&◌, ◌||◌, ◌-◌, ◌++◌, ℕ, Bool, true, false, List, [], ◌∷◌, ap, refl, sym, Option, Some, None, if◌then◌else◌, is_some, not, slice_set}
use Rattle.std.specs.Set.{remove_key}
use Rattle.a6_numbers.specs.Throttling.{Bucket}
use Rattle.attempt_ledger.specs.declared.ledger.Ledger.{Ledger}
use Rattle.call_core.specs.Parts.{count_of, is_too_long}
use Rattle.call_core.specs.Steps as call
use Rattle.call_core.specs.Steps.{Stepped, configured, cut_all, end_stamped, ended_as, ended_if, fresh_buffer, lent, reported_all, with_chosen}
use Rattle.call_core.specs.declared.act.CallAct.TheVariants as act
use Rattle.call_core.specs.declared.live.LiveRow.{LiveRow}
use Rattle.channel_core.proofs.Places.{put_there}
use Rattle.channel_core.specs.Books.{BookActs, book_asked, book_configured, placed_in_book, slot_at}
use Rattle.channel_core.specs.States.{StateSeen}
use Rattle.channel_core.specs.Steps.{chosen_in, closed, given_config, configured_as, configured_call, timers_moved, timers_moved_to, with_book}
use Rattle.channel_core.specs.Tables.{Acted, acted, acted_as, changed_slot, last_run, numbered, tokens_in, with_bucket, with_call, with_timers}
use Rattle.channel_core.specs.Timing.{timer_moved}
use Rattle.channel_core.specs.declared.state.book.Book.{Book}
use Rattle.channel_core.specs.declared.state.slots.CallSlot.{CallSlot}
use Rattle.call_cases.proofs.ConfigActions.Closed.{closed_is}
use Rattle.call_cases.proofs.ConfigActions.Timers.{remove_none, timers_join}
use Rattle.call_cases.specs.ConfiguredCalls.Steps.{bucket_slot, chosen_slot, chosen_step, timed, with_config}
use Rattle.channel_actions.specs.Sets.{PairsAreRising}
use Rattle.grpc_base.specs.declared.event.EndCause.{EndCause}
use Rattle.grpc_base.specs.declared.event.EndCause.TheVariants as ending
use Rattle.grpc_base.specs.declared.plan.Chosen.{Chosen}
use Rattle.picker_gate.specs.Pairs.{has, is_same}
use Rattle.service_config.specs.Choice.{chosen_for}
use Rattle.service_config.specs.declared.config.Config.{Config}
use Rattle.session_actions.specs.Words.{is_number}
use Rattle.channel_actions.proofs.Links.Settings.Keys.{head_out}
use Rattle.channel_actions.proofs.Links.Settings.Pairs.{has_remove, none_afterwards, self_same}
use Rattle.channel_actions.proofs.Links.Settings.Slots.{acted_is, asked_is, changed_slot_is, set_twice}

module _ (n : ℕ) (config : Config) (slot : CallSlot) (open_now : slot.call.ended ≡ None) (unchosen : slot.call.chosen ≡ None) (live : slot.call.live ≡ [])
    (long : is_too_long (Some (chosen_for config slot.call.request.path)) slot.call.longest ≡ true) (z : StateSeen) (there : slot_at z.book n ≡ Some slot) where
  abbrev pub chosen : Chosen
  chosen = chosen_for config slot.call.request.path

  abbrev pub moment : ℕ
  moment = z.book.moment

  -- the call that got its config, and its end
  abbrev pub given : Stepped
  given = chosen_step chosen slot z

  abbrev pub ends : Stepped
  ends = ended_as ending.Request moment given

  abbrev pub end_ledger : Ledger
  end_ledger = end_stamped slot.call.number ending.Request moment given.ledger

  abbrev pub end_slot : CallSlot
  end_slot = record { call = ends.call; bucket = (bucket_slot slot z).bucket; due = None; deadline = None }

  -- the channel then
  abbrev pub shape : List CallSlot → Ledger → List (ℕ × ℕ) → List (ℕ × ℕ) → List (ℕ × ℕ) → List (ℕ × ℕ) → List ℕ → StateSeen
  shape calls ledger dues deadlines awaiting_config fail_fast resets = record z {
    book = record z.book { calls = calls; ledger = ledger };
    dues = dues;
    deadlines = deadlines;
    awaiting_config = awaiting_config;
    fail_fast = fail_fast;
    resets = resets;
  }

  abbrev pub ended_shape : List (ℕ × ℕ) → List (ℕ × ℕ) → List ℕ → StateSeen
  ended_shape awaiting_config fail_fast resets =
      shape (slice_set z.book.calls (n - 1) end_slot) end_ledger (timer_moved n slot.due None z.dues) (timer_moved n slot.deadline None z.deadlines) awaiting_config fail_fast resets

  -- what the channel makes of it at once
  step_is : configured chosen moment (lent slot.call z.book.ledger None []) ≡ ends
  step_is =
      let x : Stepped = lent slot.call z.book.ledger None [] in
      ap (λ (e : Option EndCause). if is_some e || is_some slot.call.chosen then x else ended_if (is_too_long (Some chosen) slot.call.longest) ending.Request moment (with_chosen chosen moment x)) open_now
      ∙ ap (λ (c : Option Chosen). if is_some c then x else ended_if (is_too_long (Some chosen) slot.call.longest) ending.Request moment (with_chosen chosen moment x)) unchosen
      ∙ ap (λ (b : Bool). ended_if b ending.Request moment (with_chosen chosen moment x)) long

  abbrev v0 : CallSlot
  v0 = bucket_slot slot z

  abbrev v1 : CallSlot
  v1 = with_call ends.call v0

  abbrev calls0 : List CallSlot
  calls0 = slice_set z.book.calls (n - 1) v0

  abbrev calls1 : List CallSlot
  calls1 = slice_set calls0 (n - 1) v1

  there0 : numbered calls0 n ≡ Some v0
  there0 = put_there z.book.calls n slot v0 there

  there1 : numbered calls1 n ≡ Some v1
  there1 = put_there calls0 n v0 v1 there0

  abbrev booked : List LiveRow → BookActs
  booked rows = record {
    book = record z.book { calls = calls1; ledger = end_stamped slot.call.number ending.Request moment (cut_all None moment (count_of given.tokens) rows given.ledger) };
    acts = reported_all None rows [] ++ act.End ending.Request ∷ [];
  }

  book_is : book_configured chosen n z.book ≡ booked []
  book_is =
      ap (λ (l : List CallSlot). placed_in_book (acted (configured chosen moment) l n z.book.ledger None) z.book)
      (changed_slot_is (with_bucket (last_run z.book.buckets)) z.book.calls n slot there)
      ∙ ap (λ (a : Acted). placed_in_book a z.book) (acted_is (configured chosen moment) calls0 n z.book.ledger None v0 there0)
      ∙ ap (λ (s : Stepped). placed_in_book (acted_as calls0 (n - 1) v0 s) z.book) step_is
      ∙ ap booked live

  abbrev begun : StateSeen
  begun = record z { book = (booked []).book }

  calls_are : changed_slot (with_timers None None) calls1 n ≡ slice_set z.book.calls (n - 1) end_slot
  calls_are =
      changed_slot_is (with_timers None None) calls1 n v1 there1 ∙ set_twice calls0 (n - 1) v1 end_slot ∙ set_twice z.book.calls (n - 1) v0 end_slot

  pub configured_is : z.held ≡ Some config → configured_call n z ≡ ended_shape (remove_key (is_same (0, n)) z.awaiting_config) (remove_key (is_same (0, n)) z.fail_fast) z.resets
  configured_is held =
      ap (λ (c : Option Config). configured_as n (chosen_in c (slot_at z.book n)) z) held
      ∙ ap (λ (o : Option CallSlot). configured_as n (chosen_in (Some config) o) z) there
      ∙ ap (λ (b : BookActs). with_book b n z) book_is
      ∙ ap (λ (o : Option CallSlot). timers_moved_to n o (given_config n begun)) there1
      ∙ ap (λ (l : List CallSlot). shape l end_ledger (timer_moved n slot.due None z.dues) (timer_moved n slot.deadline None z.deadlines) (remove_key (is_same (0, n)) z.awaiting_config)
      (remove_key (is_same (0, n)) z.fail_fast) z.resets) calls_are

  -- and what it is once the call got its config, and then ends
  module _ (rest others : List (ℕ × ℕ)) (resets : z.resets ≡ []) (after : PairsAreRising ((0, n) ∷ rest)) (rising : PairsAreRising others) (dues_rise : PairsAreRising z.dues) (deadlines_rise : PairsAreRising z.deadlines)
      (due_was : (m : ℕ) → has z.dues (m, n) ≡ is_number m slot.due) (deadline_was : (m : ℕ) → has z.deadlines (m, n) ≡ is_number m slot.deadline) where
    abbrev pub mid : StateSeen
    mid = with_config chosen n slot (record z { awaiting_config = (0, n) ∷ rest; fail_fast = others })

    abbrev slot1 : CallSlot
    slot1 = timed (chosen_slot chosen slot z)

    mid_there : slot_at mid.book n ≡ Some slot1
    mid_there = put_there z.book.calls n slot slot1 there

    abbrev tokens : Option Bucket
    tokens = tokens_in mid.book.buckets slot1.bucket

    abbrev lent_mid : Stepped
    lent_mid = lent slot1.call mid.book.ledger tokens []

    abbrev mid_booked : List LiveRow → Book
    mid_booked rows = record mid.book {
      calls = slice_set mid.book.calls (n - 1) (with_call ends.call slot1);
      ledger = end_stamped slot.call.number ending.Request moment (cut_all None moment (count_of tokens) rows given.ledger);
    }

    close_is : call.closed_by ending.Request moment lent_mid ≡ ended_as ending.Request moment lent_mid
    close_is = ap (λ (e : Option EndCause). if not (is_some e) then ended_as ending.Request moment lent_mid else lent_mid) open_now

    mid_book_is : (book_asked (call.closed_by ending.Request moment) n mid.book).book ≡ mid_booked []
    mid_book_is =
        ap (λ (b : BookActs). b.book) (asked_is (call.closed_by ending.Request moment) n mid.book slot1 mid_there)
        ∙ ap (λ (s : Stepped). (placed_in_book (acted_as mid.book.calls (n - 1) slot1 s) mid.book).book) close_is ∙ ap mid_booked live

    abbrev v2 : CallSlot
    v2 = with_call ends.call slot1

    abbrev plain : Book → StateSeen
    plain b = record (timers_moved n (given_config n (record mid { book = b }))) { resets = [] }

    v2_there : numbered (slice_set mid.book.calls (n - 1) v2) n ≡ Some v2
    v2_there = put_there mid.book.calls n slot1 v2 mid_there

    abbrev moved : Option CallSlot → StateSeen
    moved o = record (timers_moved_to n o (given_config n (record mid { book = mid_booked [] }))) { resets = [] }

    mid_calls : changed_slot (with_timers None None) (slice_set mid.book.calls (n - 1) v2) n ≡ slice_set z.book.calls (n - 1) end_slot
    mid_calls =
        changed_slot_is (with_timers None None) (slice_set mid.book.calls (n - 1) v2) n v2 v2_there ∙ set_twice mid.book.calls (n - 1) v2 end_slot
        ∙ set_twice z.book.calls (n - 1) slot1 end_slot

    unconfigured_is : remove_key (is_same (0, n)) (remove_key (is_same (0, n)) ((0, n) ∷ rest)) ≡ rest
    unconfigured_is = ap (remove_key (is_same (0, n))) (head_out (0, n) rest) ∙ remove_none (0, n) rest (none_afterwards (0, n) rest after.0)

    twice : has (remove_key (is_same (0, n)) others) (0, n) ≡ false
    twice = has_remove others (0, n) (0, n) rising ∙ ap (λ (b : Bool). has others (0, n) && not b) (self_same (0, n)) ∙ and_off (has others (0, n))
      where
        and_off : (b : Bool) → (b && false) ≡ false
        and_off true = refl
        and_off false = refl

    fail_fast_is : remove_key (is_same (0, n)) (remove_key (is_same (0, n)) others) ≡ remove_key (is_same (0, n)) others
    fail_fast_is = remove_none (0, n) (remove_key (is_same (0, n)) others) twice

    pub ended_alike : closed ending.Request n mid ≡ ended_shape rest (remove_key (is_same (0, n)) others) []
    ended_alike =
        closed_is ending.Request n slot1 live open_now mid mid_there resets
        ∙ ap plain mid_book_is ∙ ap moved v2_there
        ∙ ap (λ (l : List CallSlot). shape l end_ledger (timer_moved n slot1.due None mid.dues) (timer_moved n slot1.deadline None mid.deadlines)
        (remove_key (is_same (0, n)) (remove_key (is_same (0, n)) ((0, n) ∷ rest))) (remove_key (is_same (0, n)) (remove_key (is_same (0, n)) others)) []) mid_calls
        ∙ ap (λ (l : List (ℕ × ℕ)). shape (slice_set z.book.calls (n - 1) end_slot) end_ledger l (timer_moved n slot1.deadline None mid.deadlines)
        (remove_key (is_same (0, n)) (remove_key (is_same (0, n)) ((0, n) ∷ rest))) (remove_key (is_same (0, n)) (remove_key (is_same (0, n)) others)) [])
        (timers_join n z.dues dues_rise slot.due slot1.due due_was)
        ∙ ap (λ (l : List (ℕ × ℕ)). shape (slice_set z.book.calls (n - 1) end_slot) end_ledger (timer_moved n slot.due None z.dues) l
        (remove_key (is_same (0, n)) (remove_key (is_same (0, n)) ((0, n) ∷ rest))) (remove_key (is_same (0, n)) (remove_key (is_same (0, n)) others)) [])
        (timers_join n z.deadlines deadlines_rise slot.deadline slot1.deadline deadline_was)
        ∙ ap (λ (l : List (ℕ × ℕ)). ended_shape l (remove_key (is_same (0, n)) (remove_key (is_same (0, n)) others)) []) unconfigured_is
        ∙ ap (λ (l : List (ℕ × ℕ)). ended_shape rest l []) fail_fast_is

    -- so both are one
    pub configured_ends : z.held ≡ Some config
        → closed ending.Request n mid ≡ record (configured_call n z) { awaiting_config = rest; fail_fast = remove_key (is_same (0, n)) others }
    configured_ends held =
        ended_alike ∙ ap (λ (l : List ℕ). ended_shape rest (remove_key (is_same (0, n)) others) l) (sym resets)
        ∙ sym (ap (λ (y : StateSeen). record y { awaiting_config = rest; fail_fast = remove_key (is_same (0, n)) others }) (configured_is held))
