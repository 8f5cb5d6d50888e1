-- Each call after a drain.
use Rattle.std.proofs.Common.{◌≡◌, ◌∷◌, ◌==◌, ap, refl, subst, sym, ◌∙◌, List, [], Option, None, Some, ℕ, if◌then◌else◌, inl, inr, is_some, length, map}
use Rattle.std.proofs.lemmas.Bool.{cases_Bool, eqb-false, eqb-true}
use Rattle.std.specs.Option.{option_map}
use Rattle.call_actions.specs.Order.{AttemptsAreNumbered}
use Rattle.call_core.specs.Parts.{fed_buffer}
use Rattle.call_core.specs.Steps.{lent}
use Rattle.channel_actions.specs.Agrees.{Agrees}
use Rattle.channel_actions.specs.Calls.{HasSlot, SeesCall, SeesCalls, deadline_of, ledger_lent, lent_to}
use Rattle.channel_actions.specs.Columns.{SeesColumns}
use Rattle.channel_actions.specs.Configs.{bucket_place}
use Rattle.channel_core.proofs.BookLaws.{called, number_changed, number_other, put_call}
use Rattle.channel_core.proofs.Resting.{changed_length}
use Rattle.channel_core.specs.Books.{call_of, row_at, slot_at}
use Rattle.channel_core.specs.Draining.{DrainLeaves, opened_by, with_streams}
use Rattle.channel_core.specs.Feeding.{all_fed, book_fed}
use Rattle.channel_core.specs.States.{StateSeen}
use Rattle.channel_core.specs.Tables.{BucketsSeen, fed_call, tokens_in, with_call}
use Rattle.channel_core.specs.Tables as table
use Rattle.channel_core.specs.declared.state.book.Book.{Book}
use Rattle.channel_core.specs.declared.state.slots.CallSlot.{CallSlot}
use Rattle.channel_actions.specs.DrainCalls.Laws.{IsOnlyStreamed}
use Rattle.attempt_cases.specs.DrainEvents.Laws.{HasRun}
use Rattle.channel_actions.specs.DrainWrites.Laws.{with_all_sent, writing}
use Rattle.event_cases.specs.DrainedCalls.Laws.{HeldCallsAgree, IsHeld}
use Rattle.grpc_base.specs.declared.event.Reply.{Reply}
use Rattle.channel_actions.proofs.KeptSessions.Along.{kept_along}
use Rattle.channel_actions.specs.KeptSessions.Kept.{IsKept}
use Rattle.ledger_stamps.specs.Steps.{changed_at}
use Rattle.session_actions.specs.Calls.{is_open_call}
use Rattle.session_actions.specs.Words.{changed, numbered}
use Rattle.session_actions.specs.declared.call.Call.{Call}
use Rattle.session_actions.specs.declared.entry.OpenEntry.{OpenEntry}
use Rattle.session_actions.specs.declared.link.Link.{Link}
use Rattle.session_actions.specs.declared.seen.Seen.{Seen}
use Rattle.event_cases.proofs.StreamedCalls.Calls.{calls_are_served, dues_stay, orders_stay, turns_stay}
use Rattle.event_cases.specs.StreamedCalls.Laws.{IsLedgerOf, with_left}
use Rattle.call_actions.specs.TakeActions.Serves.{Serves}

-- the slot of a call after feeds: another buffer
abbrev IsLike : CallSlot → CallSlot → Type 0
IsLike old slot = slot ≡ record old { call = record old.call { buffer = slot.call.buffer } }

pub record IsSlotOf (old : CallSlot) (b : Book) (number : ℕ) : Type 0 where
  pub slot : CallSlot
  pub there : slot_at b number ≡ Some slot
  pub like : IsLike old slot

still_like : (tag len : ℕ) (old slot : CallSlot) → IsLike old slot → IsLike old (called (fed_call tag len) slot)
still_like tag len old slot like =
    ap (λ (z : CallSlot). with_call (record z.call { buffer = fed_buffer tag len slot.call.buffer }) z) like

fed_calls : (tag len : ℕ) (b : Book) → (book_fed tag len b).calls ≡ changed_at (called (fed_call tag len)) b.calls (call_of (row_at b tag))
fed_calls tag len b = put_call (fed_call tag len) b.calls (call_of (row_at b tag))

one_slot : (tag len : ℕ) (b : Book) (number : ℕ) (old : CallSlot) → IsSlotOf old b number → IsSlotOf old (book_fed tag len b) number
one_slot tag len b number old is =
    let n : ℕ = call_of (row_at b tag) in
    elim (cases_Bool (number == n)) [
      | inl same ↦
          let e : number ≡ n = eqb-true number n same in
          record {
            slot = called (fed_call tag len) is.slot;
            there = ap (λ (ls : List CallSlot). table.numbered ls number) (fed_calls tag len b)
                ∙ ap (λ (k : ℕ). table.numbered (changed_at (called (fed_call tag len)) b.calls n) k) e
                ∙ number_changed (called (fed_call tag len)) b.calls n
                ∙ ap (λ (k : ℕ). option_map (called (fed_call tag len)) (table.numbered b.calls k)) (sym e)
                ∙ ap (option_map (called (fed_call tag len))) is.there;
            like = still_like tag len old is.slot is.like;
          }
      | inr other ↦
          record {
            slot = is.slot;
            there = ap (λ (ls : List CallSlot). table.numbered ls number) (fed_calls tag len b)
                ∙ number_other (called (fed_call tag len)) b.calls n number (eqb-false number n other) ∙ is.there;
            like = is.like;
          }
    ]

all_slots : (feeds : List (ℕ × ℕ)) (b : Book) (number : ℕ) (old : CallSlot) → IsSlotOf old b number → IsSlotOf old (all_fed feeds b) number
all_slots [] b number old is = is
all_slots (f ∷ feeds) b number old is = all_slots feeds (book_fed f.0 f.1 b) number old (one_slot f.0 f.1 b number old is)

all_count : (feeds : List (ℕ × ℕ)) (b : Book) → length (all_fed feeds b).calls ≡ length b.calls
all_count [] b = refl
all_count (f ∷ feeds) b =
    all_count feeds (book_fed f.0 f.1 b) ∙ ap (λ (ls : List CallSlot). length ls) (fed_calls f.0 f.1 b)
    ∙ changed_length (called (fed_call f.0 f.1)) b.calls (call_of (row_at b f.0))

fed_form : (feeds : List (ℕ × ℕ)) (b : Book) → all_fed feeds b ≡ record b { calls = (all_fed feeds b).calls }
fed_form [] b = refl
fed_form (f ∷ feeds) b = fed_form feeds (book_fed f.0 f.1 b)

module _ (x y : StateSeen) (s : Seen) (link room : ℕ) (r : Reply) (h : Agrees x s) (leaves : DrainLeaves link room x r y) (t : Seen)
    (run : HasRun s t y link leaves.fed)
    (held : (number : ℕ) (c : Call) (slot : CallSlot) → numbered s.calls number ≡ Some c → slot_at leaves.fed number ≡ Some slot → IsHeld s t c slot) where
  abbrev v : Seen
  v = run.run.seen

  is : v ≡ record s { attempts = v.attempts; links = changed (with_all_sent run.run.sent) run.before.number s.links; current = Some run.run.entry }
  is = run.run.is

  places : AttemptsAreNumbered 1 s.attempts
  places = h.kept.book.places

  links_v : v.links ≡ changed (with_all_sent run.run.sent) run.before.number s.links
  links_v = ap (λ (z : Seen). z.links) is

  current_v : v.current ≡ Some run.run.entry
  current_v = ap (λ (z : Seen). z.current) is

  only : IsOnlyStreamed s v
  only = record {
    is = is ∙ ap (λ (ls : List Link). record s { attempts = v.attempts; links = ls; current = Some run.run.entry }) (sym links_v)
        ∙ ap (λ (c : Option OpenEntry). record s { attempts = v.attempts; links = v.links; current = c }) (sym current_v);
    rows = run.run.rows;
  }

  calls_v : v.calls ≡ s.calls
  calls_v = ap (λ (z : Seen). z.calls) is

  open_v : is_some v.current ≡ is_some s.current
  open_v = ap (λ (c : Option OpenEntry). is_some c) current_v ∙ sym (ap (λ (c : Option OpenEntry). is_some c) run.current)

  kept_v : IsKept v
  kept_v = kept_along (map (writing run.before.number) run.run.sent) s v h.kept run.run.does

  -- the channel
  abbrev fed : Book
  fed = leaves.fed

  y_is : y ≡ record x { links = y.links; book = with_streams (opened_by leaves.drained) fed }
  y_is = leaves.state_is

  fed_is : fed ≡ record x.book { calls = fed.calls }
  fed_is = leaves.feeds.1 ∙ fed_form leaves.feeds.0 x.book ∙ ap (λ (b : Book). record x.book { calls = b.calls }) (sym leaves.feeds.1)

  calls_y : y.book.calls ≡ fed.calls
  calls_y = ap (λ (z : StateSeen). z.book.calls) y_is

  buckets_y : y.book.buckets ≡ x.book.buckets
  buckets_y = ap (λ (z : StateSeen). z.book.buckets) y_is ∙ ap (λ (b : Book). b.buckets) fed_is

  count : length v.calls ≡ length y.book.calls
  count =
      ap (λ (ls : List Call). length ls) calls_v ∙ h.calls.count
      ∙ sym (ap (λ (ls : List CallSlot). length ls) calls_y ∙ ap (λ (b : Book). length b.calls) leaves.feeds.1 ∙ all_count leaves.feeds.0 x.book)

  -- one call
  module _ (columns : SeesColumns y.book.ledger v) (number : ℕ) (c : Call) (here : numbered s.calls number ≡ Some c) where
    old : HasSlot x s c number
    old = h.calls.each number c here

    new : IsSlotOf old.slot fed number
    new =
        subst (λ (b : Book). IsSlotOf old.slot b number) (sym leaves.feeds.1)
        (all_slots leaves.feeds.0 x.book number old.slot (record { slot = old.slot; there = old.there; like = refl }))

    abbrev slot : CallSlot
    slot = new.slot

    is_held : IsHeld s t c slot
    is_held = held number c slot here new.there

    held_v : IsHeld s v c slot
    held_v = subst (λ (z : Seen). IsHeld s z c slot) run.seen is_held

    ledger_now : IsLedgerOf (ledger_lent x s) (ledger_lent y v) v
    ledger_now = record {
      rows = columns.rows;
      links = refl;
      calls = ap (λ (z : StateSeen). z.book.ledger.calls) y_is ∙ ap (λ (b : Book). b.ledger.calls) fed_is;
      entry = ap (λ (z : StateSeen). z.book.ledger.entry) y_is ∙ ap (λ (b : Book). b.ledger.entry) fed_is;
      reads = kept_v.reads;
    }

    served : Serves v c (with_left slot.call.buffer (ledger_lent y v) (lent_to x s old.slot))
    served =
        calls_are_served s v c (lent_to x s old.slot) slot.call.buffer (ledger_lent y v) places only open_v old.sees.serves ledger_now held_v.came_same held_v.holds

    lent_same : with_left slot.call.buffer (ledger_lent y v) (lent_to x s old.slot) ≡ lent_to y v slot
    lent_same =
        ap (λ (b : BucketsSeen). lent (record old.slot.call { buffer = slot.call.buffer }) (ledger_lent y v) (tokens_in b old.slot.bucket) []) (sym buckets_y)
        ∙ ap (λ (z : CallSlot). lent z.call (ledger_lent y v) (tokens_in y.book.buckets z.bucket) []) (sym new.like)

    sees : SeesCall y v c slot
    sees = record {
      bucket = ap (λ (z : Seen). bucket_place z c) is ∙ old.sees.bucket ∙ sym (ap (λ (z : CallSlot). z.bucket) new.like);
      serves = subst (Serves v c) lent_same served;
      order = orders_stay s v c places only old.sees.order;
      turn = turns_stay s v c places only old.sees.turn;
      due = ap (λ (d : Option ℕ). if is_open_call c then d else None) (dues_stay s v c places only) ∙ old.sees.due ∙ sym (ap (λ (z : CallSlot). z.due) new.like);
      deadline_is = ap (λ (z : Seen). deadline_of z c) is ∙ old.sees.deadline_is ∙ sym (ap (λ (z : CallSlot). z.deadline) new.like);
    }

    has : HasSlot y v c number
    has = record { slot = slot; there = ap (λ (ls : List CallSlot). table.numbered ls number) calls_y ∙ new.there; sees = sees }

  calls_now : SeesColumns y.book.ledger v → SeesCalls y v
  calls_now columns = record { count = count; each = λ number c got. has columns number c (ap (λ (ls : List Call). numbered ls number) (sym calls_v) ∙ got) }

pub calls_agree_by : (x y : StateSeen) (s t : Seen) (link room : ℕ) (r : Reply) → Agrees x s → (leaves : DrainLeaves link room x r y) → HasRun s t y link leaves.fed
    → ((number : ℕ) (c : Call) (slot : CallSlot) → numbered s.calls number ≡ Some c → slot_at leaves.fed number ≡ Some slot → IsHeld s t c slot) → SeesColumns y.book.ledger t
    → SeesCalls y t
calls_agree_by x y s t link room r h leaves run held columns =
    subst (SeesCalls y) (sym run.seen) (calls_now x y s link room r h leaves t run held (subst (SeesColumns y.book.ledger) run.seen columns))

pub held_calls_agree : HeldCallsAgree
held_calls_agree held x y s t link room r h leaves run columns =
    calls_agree_by x y s t link room r h leaves run (λ number c slot got there. held x y s t link room r h leaves run number c slot got there) columns
