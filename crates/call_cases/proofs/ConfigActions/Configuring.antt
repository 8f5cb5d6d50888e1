-- A call gets its config in the channel, where no message is too long for it.
use Rattle.std.proofs.Common.{◌≡◌, ◌∙◌, ◌||◌, ◌-◌, ◌==◌, ℕ, Bool, false, List, [], ◌∷◌, ap, sym, Option, Some, None, if◌then◌else◌, is_some, slice_set}
use Rattle.std.specs.Set.{remove_key}
use Rattle.attempt_ledger.specs.declared.ledger.Ledger.{Ledger}
use Rattle.call_core.specs.Parts.{is_too_long}
use Rattle.call_core.specs.Steps.{Stepped, configured, ended_if, lent, with_chosen}
use Rattle.channel_core.proofs.Places.{put_there}
use Rattle.channel_core.specs.Books.{BookActs, book_configured, deadline_of, due_at, placed_in_book, slot_at}
use Rattle.channel_core.specs.States.{StateSeen}
use Rattle.channel_core.specs.Steps.{chosen_in, configured_as, configured_call, timers_moved, timers_moved_to, with_book}
use Rattle.channel_core.specs.Tables.{Acted, acted, acted_as, changed_slot, last_run, numbered, with_bucket, with_timers}
use Rattle.channel_core.specs.declared.state.slots.CallSlot.{CallSlot}
use Rattle.call_cases.specs.ConfiguredCalls.Steps.{bucket_slot, chosen_slot, chosen_step, timed, with_config}
use Rattle.grpc_base.specs.declared.event.EndCause.{EndCause}
use Rattle.grpc_base.specs.declared.event.EndCause.TheVariants as ending
use Rattle.grpc_base.specs.declared.plan.Chosen.{Chosen}
use Rattle.picker_gate.specs.Pairs.{is_same}
use Rattle.service_config.specs.Choice.{chosen_for}
use Rattle.service_config.specs.declared.config.Config.{Config}
use Rattle.channel_actions.proofs.Links.Settings.Keys.{head_out}
use Rattle.channel_actions.proofs.Links.Settings.Slots.{acted_is, changed_slot_is, put_away, set_twice}

module _ (n : ℕ) (config : Config) (slot : CallSlot) (open_now : slot.call.ended ≡ None) (unchosen : slot.call.chosen ≡ None)
    (short : is_too_long (Some (chosen_for config slot.call.request.path)) slot.call.longest ≡ false) where
  abbrev chosen : Chosen
  chosen = chosen_for config slot.call.request.path

  -- the step of the call
  step_is : (moment : ℕ) (l : Ledger) → configured chosen moment (lent slot.call l None []) ≡ with_chosen chosen moment (lent slot.call l None [])
  step_is moment l =
      let x : Stepped = lent slot.call l None [] in
      ap (λ (e : Option EndCause). if is_some e || is_some slot.call.chosen then x else ended_if (is_too_long (Some chosen) slot.call.longest) ending.Request moment (with_chosen chosen moment x)) open_now
      ∙ ap (λ (c : Option Chosen). if is_some c then x else ended_if (is_too_long (Some chosen) slot.call.longest) ending.Request moment (with_chosen chosen moment x)) unchosen
      ∙ ap (λ (b : Bool). ended_if b ending.Request moment (with_chosen chosen moment x)) short

  module _ (z : StateSeen) (there : slot_at z.book n ≡ Some slot) where
    abbrev v0 : CallSlot
    v0 = bucket_slot slot z

    abbrev slot1 : CallSlot
    slot1 = chosen_slot chosen slot z

    abbrev calls0 : List CallSlot
    calls0 = slice_set z.book.calls (n - 1) v0

    abbrev calls1 : List CallSlot
    calls1 = slice_set calls0 (n - 1) slot1

    there0 : numbered calls0 n ≡ Some v0
    there0 = put_there z.book.calls n slot v0 there

    there1 : numbered calls1 n ≡ Some slot1
    there1 = put_there calls0 n v0 slot1 there0

    book_is : book_configured chosen n z.book ≡ placed_in_book (acted_as calls0 (n - 1) v0 (chosen_step chosen slot z)) z.book
    book_is =
        ap (λ (l : List CallSlot). placed_in_book (acted (configured chosen z.book.moment) l n z.book.ledger None) z.book)
        (changed_slot_is (with_bucket (last_run z.book.buckets)) z.book.calls n slot there)
        ∙ ap (λ (a : Acted). placed_in_book a z.book) (acted_is (configured chosen z.book.moment) calls0 n z.book.ledger None v0 there0)
        ∙ ap (λ (s : Stepped). placed_in_book (acted_as calls0 (n - 1) v0 s) z.book) (step_is z.book.moment z.book.ledger)

    abbrev booked : StateSeen
    booked = record z { book = record z.book { calls = calls1; ledger = (chosen_step chosen slot z).ledger } }

    calls_are : changed_slot (with_timers (due_at (Some slot1)) (deadline_of (Some slot1))) calls1 n ≡ slice_set z.book.calls (n - 1) (timed slot1)
    calls_are =
        changed_slot_is (with_timers (due_at (Some slot1)) (deadline_of (Some slot1))) calls1 n slot1 there1
        ∙ set_twice calls0 (n - 1) slot1 (timed slot1) ∙ set_twice z.book.calls (n - 1) v0 (timed slot1)

    -- without the sets of calls that have no config
    abbrev plain : StateSeen
    plain = record (with_config chosen n slot z) { awaiting_config = z.awaiting_config; fail_fast = z.fail_fast }

    timers_are : timers_moved n booked ≡ plain
    timers_are =
        ap (λ (o : Option CallSlot). timers_moved_to n o booked) there1
        ∙ ap (λ (l : List CallSlot). record plain { book = record plain.book { calls = l } }) calls_are

    pub configured_is : z.held ≡ Some config → configured_call n z ≡ plain
    configured_is held =
        ap (λ (c : Option Config). configured_as n (chosen_in c (slot_at z.book n)) z) held
        ∙ ap (λ (o : Option CallSlot). configured_as n (chosen_in (Some config) o) z) there
        ∙ ap (λ (b : BookActs). with_book b n z) book_is ∙ timers_are

    -- where it is the first of those without a config
    pub configured_first : z.held ≡ Some config → (rest others : List (ℕ × ℕ))
        → with_config chosen n slot (record z { awaiting_config = (0, n) ∷ rest; fail_fast = others })
        ≡ record (configured_call n z) { awaiting_config = rest; fail_fast = remove_key (is_same (0, n)) others }
    configured_first held rest others =
        ap (λ (l : List (ℕ × ℕ)). record plain { awaiting_config = l; fail_fast = remove_key (is_same (0, n)) others }) (head_out (0, n) rest)
        ∙ sym (ap (λ (y : StateSeen). record y { awaiting_config = rest; fail_fast = remove_key (is_same (0, n)) others }) (configured_is held))
