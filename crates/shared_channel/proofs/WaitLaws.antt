-- Deadlines that have come only end calls: what could be taken before them can be taken after them, and a message that had room has room.
use Rattle.std.proofs.Common.{◌≡◌, ◌∙◌, ℕ, zero, suc, Bool, true, false, not, ◌||◌, nat_le, if◌then◌else◌, is_some, Option, Some, None, List, [], ◌∷◌, length, slice_get, slice_set, refl, sym, subst, inl, inr}
use Rattle.std.proofs.lemmas.Bool.{cases_Bool}
use Rattle.std.specs.Set.{remove_key}
use Rattle.picker_gate.specs.Pairs.{is_same}
use Rattle.call_core.specs.Parts.{has_none}
use Rattle.grpc_base.specs.declared.event.EndCause.TheVariants as ends
use Rattle.grpc_base.specs.declared.event.Event.TheVariants as event
use Rattle.grpc_base.specs.declared.event.Reply.TheVariants as reply
use Rattle.attempt_ledger.specs.declared.ledger.Ledger.{Ledger}
use Rattle.a6_numbers.specs.Throttling.{Bucket}
use Rattle.call_core.specs.declared.act.CallAct.{CallAct}
use Rattle.call_core.specs.declared.act.CallAct.TheVariants as act
use Rattle.call_core.specs.Steps as step
use Rattle.call_core.specs.Steps.{deadline_at, ended_if, lent}
use Rattle.ledger_stamps.specs.Steps.{index_at}
use Rattle.channel_core.specs.declared.state.slots.CallSlot.{CallSlot}
use Rattle.channel_core.specs.Applying.{Answers, Stepped, begun_at, can_send_in}
use Rattle.channel_core.specs.Books.{book_asked, bucket_at, can_send_at, can_take_at, deadline_of, due_at, link_of, row_at, slot_at}
use Rattle.channel_core.specs.States.{StateSeen}
use Rattle.channel_core.specs.Steps.{act_done, acts_done, all_timed_out, call_asked, is_gone, links_sealed, overdue_ended, reset_on, resets_taken, sealed_one, stamped_gone, timed_out, timers_moved}
use Rattle.channel_core.specs.Tables.{acted, acted_at, acted_on, changed_slot, changed_slot_at, changed_slot_on, numbered, tokens_in, with_call, with_timers}
use Rattle.channel_core.specs.Timing.{due_keys, later, number_of}
use Rattle.channel_core.proofs.LookLaws.{send_waits, take_waits}

-- a test of a call, if there is one
abbrev Test : Type 0
Test = Option CallSlot → Bool

abbrev Stays : Test → CallSlot → CallSlot → Type 0
Stays t old new = t (Some old) ≡ true → t (Some new) ≡ true

set_stays : (t : Test) (calls : List CallSlot) (k j : ℕ) (old new : CallSlot) → slice_get calls k ≡ Some old → Stays t old new
    → t (slice_get calls j) ≡ true → t (slice_get (slice_set calls k new) j) ≡ true
set_stays t [] k j old new at stays was = was
set_stays t (x ∷ calls) zero zero old new at stays was = stays (subst (λ (o : Option CallSlot). t o ≡ true) at was)
set_stays t (x ∷ calls) zero (suc j) old new at stays was = was
set_stays t (x ∷ calls) (suc k) zero old new at stays was = was
set_stays t (x ∷ calls) (suc k) (suc j) old new at stays was = set_stays t calls k j old new at stays was

put_stays : (t : Test) (calls : List CallSlot) (k n : ℕ) (old new : CallSlot) → slice_get calls k ≡ Some old → Stays t old new
    → t (numbered calls n) ≡ true → t (numbered (slice_set calls k new) n) ≡ true
put_stays t calls k zero old new at stays was = was
put_stays t calls k (suc j) old new at stays was = set_stays t calls k j old new at stays was

-- a call does something
abbrev ActStays : Test → (step.Stepped → step.Stepped) → Type 0
ActStays t f = (slot : CallSlot) (ledger : Ledger) (tokens : Option Bucket) → Stays t slot (with_call (f (lent slot.call ledger tokens [])).call slot)

acted_at_stays : (t : Test) (f : step.Stepped → step.Stepped) (calls : List CallSlot) (k n : ℕ) (ledger : Ledger) (tokens : Option Bucket) (o : Option CallSlot)
    → slice_get calls k ≡ o → ActStays t f → t (numbered calls n) ≡ true → t (numbered (acted_at f calls k ledger tokens o).calls n) ≡ true
acted_at_stays t f calls k n ledger tokens None at stays was = was
acted_at_stays t f calls k n ledger tokens (Some slot) at stays was =
    put_stays t calls k n slot (with_call (f (lent slot.call ledger tokens [])).call slot) at (stays slot ledger tokens) was

acted_on_stays : (t : Test) (f : step.Stepped → step.Stepped) (calls : List CallSlot) (n : ℕ) (ledger : Ledger) (tokens : Option Bucket) (k : Option ℕ)
    → ActStays t f → t (numbered calls n) ≡ true → t (numbered (acted_on f calls ledger tokens k).calls n) ≡ true
acted_on_stays t f calls n ledger tokens None stays was = was
acted_on_stays t f calls n ledger tokens (Some k) stays was = acted_at_stays t f calls k n ledger tokens (slice_get calls k) refl stays was

acted_stays : (t : Test) (f : step.Stepped → step.Stepped) (calls : List CallSlot) (m n : ℕ) (ledger : Ledger) (tokens : Option Bucket)
    → ActStays t f → t (numbered calls n) ≡ true → t (numbered (acted f calls m ledger tokens).calls n) ≡ true
acted_stays t f calls m n ledger tokens stays was = acted_on_stays t f calls n ledger tokens (index_at m (length calls)) stays was

-- its slot changes
abbrev SlotStays : Test → (CallSlot → CallSlot) → Type 0
SlotStays t f = (slot : CallSlot) → Stays t slot (f slot)

changed_at_stays : (t : Test) (f : CallSlot → CallSlot) (calls : List CallSlot) (k n : ℕ) (o : Option CallSlot)
    → slice_get calls k ≡ o → SlotStays t f → t (numbered calls n) ≡ true → t (numbered (changed_slot_at f calls k o) n) ≡ true
changed_at_stays t f calls k n None at stays was = was
changed_at_stays t f calls k n (Some slot) at stays was = put_stays t calls k n slot (f slot) at (stays slot) was

changed_on_stays : (t : Test) (f : CallSlot → CallSlot) (calls : List CallSlot) (n : ℕ) (k : Option ℕ)
    → SlotStays t f → t (numbered calls n) ≡ true → t (numbered (changed_slot_on f calls k) n) ≡ true
changed_on_stays t f calls n None stays was = was
changed_on_stays t f calls n (Some k) stays was = changed_at_stays t f calls k n (slice_get calls k) refl stays was

changed_stays : (t : Test) (f : CallSlot → CallSlot) (calls : List CallSlot) (m n : ℕ)
    → SlotStays t f → t (numbered calls n) ≡ true → t (numbered (changed_slot f calls m) n) ≡ true
changed_stays t f calls m n stays was = changed_on_stays t f calls n (index_at m (length calls)) stays was

-- a channel of which this test is so for the call of this number, and which is shut or not
abbrev Fine : Test → ℕ → Bool → StateSeen → Type 0
Fine t n shut s = (s.shut ≡ shut) × (t (slot_at s.book n) ≡ true)

either_fine : (t : Test) (n : ℕ) (shut b : Bool) (x y : StateSeen) → Fine t n shut x → Fine t n shut y → Fine t n shut (if b then x else y)
either_fine t n shut true x y p q = p
either_fine t n shut false x y p q = q

stamped_fine : (t : Test) (n : ℕ) (shut : Bool) (link : ℕ) (s : StateSeen) → Fine t n shut s → Fine t n shut (stamped_gone link s)
stamped_fine t n shut link s fine = either_fine t n shut (is_gone link s) _ s fine fine

act_fine : (t : Test) (n : ℕ) (shut : Bool) (m : ℕ) (a : CallAct) (s : StateSeen) → Fine t n shut s → Fine t n shut (act_done m a s)
act_fine t n shut m (act.Cut row) s fine =
    let link = link_of (row_at s.book row) in
    let reset = reset_on link row s in
    let left : StateSeen = record reset { outstanding = remove_key (is_same (link, row)) reset.outstanding } in
    stamped_fine t n shut link left fine
act_fine t n shut m (act.Drop row) s fine = fine
act_fine t n shut m (act.Queue row) s fine = fine
act_fine t n shut m (act.End why) s fine = fine

acts_fine : (t : Test) (n : ℕ) (shut : Bool) (m : ℕ) (acts : List CallAct) (s : StateSeen) → Fine t n shut s → Fine t n shut (acts_done m acts s)
acts_fine t n shut m [] s fine = fine
acts_fine t n shut m (a ∷ acts) s fine = acts_fine t n shut m acts (act_done m a s) (act_fine t n shut m a s fine)

-- no timer and no seal of a link is a call's
abbrev ForgetsTimers : Test → Type 0
ForgetsTimers t = (due deadline : Option ℕ) → SlotStays t (with_timers due deadline)

timers_fine : (t : Test) (n : ℕ) (shut : Bool) (m : ℕ) (s : StateSeen) → ForgetsTimers t → Fine t n shut s → Fine t n shut (timers_moved m s)
timers_fine t n shut m s forgets fine =
    let due = due_at (slot_at s.book m) in
    let deadline = deadline_of (slot_at s.book m) in
    (fine.0, changed_stays t (with_timers due deadline) s.book.calls m n (forgets due deadline) fine.1)

links_fine : (t : Test) (n : ℕ) (shut : Bool) (links : List ℕ) (s : StateSeen) → Fine t n shut s → Fine t n shut (links_sealed links s)
links_fine t n shut [] s fine = fine
links_fine t n shut (link ∷ links) s fine = links_fine t n shut links (sealed_one link s) fine

asked_fine : (t : Test) (n : ℕ) (shut : Bool) (f : step.Stepped → step.Stepped) (m : ℕ) (s : StateSeen)
    → ForgetsTimers t → ActStays t f → Fine t n shut s → Fine t n shut (call_asked f m s)
asked_fine t n shut f m s forgets stays fine =
    let b = book_asked f m s.book in
    let begun : StateSeen = record s { book = b.book } in
    timers_fine t n shut m (acts_done m b.acts begun) forgets
    (acts_fine t n shut m b.acts begun (fine.0, acted_stays t f s.book.calls m n s.book.ledger (tokens_in s.book.buckets (bucket_at (slot_at s.book m))) stays fine.1))

-- a test that is so of a call that ended
abbrev EndsStay : Test → Type 0
EndsStay t = (moment : ℕ) → ActStays t (step.timed_out moment)

timed_fine : (t : Test) (n : ℕ) (shut : Bool) (m : ℕ) (s : StateSeen) → ForgetsTimers t → EndsStay t → Fine t n shut s → Fine t n shut (timed_out m s)
timed_fine t n shut m s forgets ends_stay fine =
    let asked = call_asked (step.timed_out s.book.moment) m s in
    links_fine t n shut asked.resets (resets_taken asked) (asked_fine t n shut (step.timed_out s.book.moment) m s forgets (ends_stay s.book.moment) fine)

all_timed_fine : (t : Test) (n : ℕ) (shut : Bool) (keys : List ℕ) (s : StateSeen) → ForgetsTimers t → EndsStay t → Fine t n shut s → Fine t n shut (all_timed_out keys s)
all_timed_fine t n shut [] s forgets ends_stay fine = fine
all_timed_fine t n shut (key ∷ keys) s forgets ends_stay fine =
    all_timed_fine t n shut keys (timed_out (number_of key) s) forgets ends_stay (timed_fine t n shut (number_of key) s forgets ends_stay fine)

overdue_fine : (t : Test) (n : ℕ) (shut : Bool) (s : StateSeen) → ForgetsTimers t → EndsStay t → Fine t n shut s → Fine t n shut (overdue_ended s)
unfolding overdue_ended
overdue_fine t n shut s forgets ends_stay fine =
    let taken : StateSeen = record s { deadlines = later s.book.moment s.deadlines } in
    all_timed_fine t n shut (due_keys s.book.moment s.deadlines) taken forgets ends_stay fine

begun_fine : (t : Test) (n : ℕ) (shut : Bool) (entry moment word : ℕ) (s : StateSeen) → ForgetsTimers t → EndsStay t → Fine t n shut s
    → Fine t n shut (overdue_ended (begun_at entry moment word s))
begun_fine t n shut entry moment word s forgets ends_stay fine = overdue_fine t n shut (begun_at entry moment word s) forgets ends_stay fine

-- of a call that may be taken
last_true : (a b c : Bool) → (a || b || c || true) ≡ true
last_true true b c = refl
last_true false true c = refl
last_true false false true = refl
last_true false false false = refl

take_by : (late live : Bool) (moment : ℕ) (slot : CallSlot) (s : step.Stepped) → can_take_at (Some (with_call s.call slot)) ≡ true
    → can_take_at (Some (with_call (if late then ended_if live ends.Deadline moment s else s).call slot)) ≡ true
take_by true true moment slot s was = last_true s.call.inbox.is_end_taken (is_some s.call.inbox.head) (not (has_none s.call.inbox.messages))
take_by true false moment slot s was = was
take_by false live moment slot s was = was

take_at : (deadline : Option ℕ) (moment : ℕ) (slot : CallSlot) (s : step.Stepped) → can_take_at (Some (with_call s.call slot)) ≡ true
    → can_take_at (Some (with_call (step.timed_out_if deadline moment s).call slot)) ≡ true
take_at None moment slot s was = was
take_at (Some deadline) moment slot s was = take_by (nat_le deadline moment) (not (is_some s.call.ended)) moment slot s was

take_ends : EndsStay can_take_at
take_ends moment slot ledger tokens was = take_at (deadline_at slot.call) moment slot (lent slot.call ledger tokens []) was

-- of a call that has room
send_by : (len : ℕ) (late live : Bool) (moment : ℕ) (slot : CallSlot) (s : step.Stepped) → can_send_at len (Some (with_call s.call slot)) ≡ true
    → can_send_at len (Some (with_call (if late then ended_if live ends.Deadline moment s else s).call slot)) ≡ true
send_by len true true moment slot s was = refl
send_by len true false moment slot s was = was
send_by len false live moment slot s was = was

send_at : (len : ℕ) (deadline : Option ℕ) (moment : ℕ) (slot : CallSlot) (s : step.Stepped) → can_send_at len (Some (with_call s.call slot)) ≡ true
    → can_send_at len (Some (with_call (step.timed_out_if deadline moment s).call slot)) ≡ true
send_at len None moment slot s was = was
send_at len (Some deadline) moment slot s was = send_by len (nat_le deadline moment) (not (is_some s.call.ended)) moment slot s was

send_ends : (len : ℕ) → EndsStay (can_send_at len)
send_ends len moment slot ledger tokens was = send_at len (deadline_at slot.call) moment slot (lent slot.call ledger tokens []) was

-- what a step would answer NotYet, the channel as it was would have answered so
clash : true ≡ false → ⊥
clash e = (cc)

pub take_law : (entry moment word call : ℕ) (old new : StateSeen) → Stepped entry moment word (event.Take call) old new reply.NotYet
    → (t : StateSeen) × Answers (event.Take call) old t reply.NotYet
take_law entry moment word call old new stepped =
    let late = overdue_ended (begun_at entry moment word old) in
    let waits : can_take_at (slot_at late.book call) ≡ false = (take_waits call late).1 (stepped.answered, stepped.answers) in
    elim (cases_Bool (can_take_at (slot_at old.book call))) [
      | inl can ↦ absurd (clash (sym (begun_fine can_take_at call old.shut entry moment word old (λ due deadline slot was. was) take_ends (refl, can)).1 ∙ waits))
      | inr cannot ↦ (take_waits call old).0 cannot
    ]

or_left : (a b : Bool) → a ≡ true → (a || b) ≡ true
or_left true b p = refl
or_left false b p = absurd (clash (sym p))

or_right : (a b : Bool) → b ≡ true → (a || b) ≡ true
or_right true b p = refl
or_right false b p = p

or_from : (a b : Bool) → a ≡ false → (a || b) ≡ true → b ≡ true
or_from true b p h = absurd (clash p)
or_from false b p h = h

send_stays : (entry moment word len call : ℕ) (s : StateSeen) → can_send_in len call s ≡ true → can_send_in len call (overdue_ended (begun_at entry moment word s)) ≡ true
send_stays entry moment word len call s can =
    let late = overdue_ended (begun_at entry moment word s) in
    elim (cases_Bool s.shut) [
      | inl shut ↦ or_left late.shut _ ((begun_fine (λ o. true) call s.shut entry moment word s (λ due deadline slot was. refl) (λ m slot ledger tokens was. refl) (refl, refl)).0 ∙ shut)
      | inr unshut ↦ or_right late.shut _ (begun_fine (can_send_at len) call s.shut entry moment word s (λ due deadline slot was. was) (send_ends len) (refl, or_from s.shut _ unshut can)).1
    ]

pub send_law : (entry moment word call held : ℕ) (message : List ℕ) (old new : StateSeen) → Stepped entry moment word (event.Send call message) old new (reply.Full held)
    → (held : ℕ) × ((t : StateSeen) × Answers (event.Send call message) old t (reply.Full held))
send_law entry moment word call held message old new stepped =
    let late = overdue_ended (begun_at entry moment word old) in
    let waits : can_send_in (length message) call late ≡ false = (send_waits call message late).1 (held, (stepped.answered, stepped.answers)) in
    elim (cases_Bool (can_send_in (length message) call old)) [
      | inl can ↦ absurd (clash (sym (send_stays entry moment word (length message) call old can) ∙ waits))
      | inr cannot ↦ (send_waits call message old).0 cannot
    ]
