-- Of a whole channel: what it may still do for its calls is never more than before, in a round of a settling.
use Rattle.std.proofs.Common.{◌≡◌, ◌≤◌, ◌+◌, ◌*◌, ◌-◌, ◌∙◌, ◌∷◌, ℕ, zero, suc, List, [], Option, None, Some, refl, ap, sym, subst, arith, length, slice_get, slice_set, if◌then◌else◌}
use Rattle.a6_numbers.specs.Throttling.{Bucket}
use Rattle.attempt_ledger.specs.declared.ledger.Ledger.{Ledger}
use Rattle.attempt_ledger.specs.declared.row.Placed.{Placed}
use Rattle.attempt_ledger.specs.declared.row.Row.{Row}
use Rattle.call_core.specs.Steps as call
use Rattle.call_core.specs.Steps.{Stepped, lent}
use Rattle.call_core.specs.declared.attempts.Attempts.{Attempts}
use Rattle.call_core.specs.declared.state.CallState.{CallState}
use Rattle.channel_actions.proofs.Calls.Going.Arms.{CallLaws}
use Rattle.channel_actions.proofs.Links.Settings.Slots.{acted_is}
use Rattle.attempt_cases.proofs.RoundSteps.Loads.{Lowers, lowers_by, lowers_made, may}
use Rattle.channel_actions.proofs.Calls.Sound.Carried.{AreSound, Settled, Settles, rests}
use Rattle.channel_actions.proofs.Calls.Sound.Spends.{taken_same}
use Rattle.channel_actions.proofs.Calls.Sound.Steps.{leaves_closed, leaves_failed, leaves_placed, leaves_timed, less_on, waiting}
use Rattle.channel_actions.proofs.Calls.Sound.Tables.{AllSound, SoundCall, sound_get}
use Rattle.channel_core.proofs.Resting.{IsQuietActionInvariant}
use Rattle.channel_core.specs.States.{StateSeen}
use Rattle.channel_core.specs.Steps.{next_word}
use Rattle.channel_core.specs.Tables.{Acted, acted, acted_at, acted_on, changed_call, changed_call_at, changed_call_on, changed_slot, changed_slot_at, changed_slot_on, numbered, with_timers, without_due}
use Rattle.channel_core.specs.declared.state.book.Book.{Book}
use Rattle.channel_core.specs.declared.state.slots.CallSlot.{CallSlot}
use Rattle.grpc_base.specs.declared.event.EndCause.{EndCause}
use Rattle.ledger_stamps.specs.Steps.{index_at}

abbrev pub may_all : List CallSlot → ℕ
may_all [] = 0
may_all (slot ∷ slots) = may slot.call + may_all slots

abbrev pub load_of : List Row → List CallSlot → ℕ
load_of rows calls = waiting rows + 2 * may_all calls

abbrev pub load : StateSeen → ℕ
load x = load_of x.book.ledger.rows x.book.calls

-- one call of the table is another
pub set_load : (k n m : ℕ) (calls : List CallSlot) (i : ℕ) (old new : CallSlot) → slice_get calls i ≡ Some old → m + 2 * may new.call + k ≤ n + 2 * may old.call
    → m + 2 * may_all (slice_set calls i new) + k ≤ n + 2 * may_all calls
set_load k n m [] i old new e less = absurd (let bad : None ≡ Some old = e in (cc))
set_load k n m (x ∷ calls) zero old new e less =
    let same : x ≡ old = (cc) in
    let left : may x.call ≡ may old.call = ap (λ (z : CallSlot). may z.call) same in
    let one : may_all (new ∷ calls) ≡ may new.call + may_all calls = refl in
    let two : may_all (x ∷ calls) ≡ may x.call + may_all calls = refl in
    omega (arith, less, left, one, two)
set_load k n m (x ∷ calls) (suc i) old new e less =
    let more : m + 2 * may_all (slice_set calls i new) + k ≤ n + 2 * may_all calls = set_load k n m calls i old new e less in
    let one : may_all (x ∷ slice_set calls i new) ≡ may x.call + may_all (slice_set calls i new) = refl in
    let two : may_all (x ∷ calls) ≡ may x.call + may_all calls = refl in
    omega (arith, more, one, two)

drop_zero : (a b : ℕ) → a + 0 ≤ b → a ≤ b
drop_zero a b e = omega (arith, e)

self_less : (n : ℕ) → n ≤ n
self_less n = omega arith

-- a call does something
module _ (f : Stepped → Stepped) (ledger : Ledger) (tokens : Option Bucket) (calls : List CallSlot) (all : AllSound (length ledger.rows) calls)
    (does : (c : CallState) → SoundCall (length ledger.rows) c → Lowers 0 (lent c ledger tokens []) (f (lent c ledger tokens []))) where
  acted_by : (i : ℕ) (o : Option CallSlot) → slice_get calls i ≡ o
      → load_of (acted_at f calls i ledger tokens o).ledger.rows (acted_at f calls i ledger tokens o).calls ≤ load_of ledger.rows calls
  acted_by i None e = self_less (load_of ledger.rows calls)
  acted_by i (Some slot) e =
      let t : Stepped = f (lent slot.call ledger tokens []) in
      let new : CallSlot = record slot { call = t.call } in
      drop_zero (waiting t.ledger.rows + 2 * may_all (slice_set calls i new)) (load_of ledger.rows calls)
      (set_load 0 (waiting ledger.rows) (waiting t.ledger.rows) calls i slot new e (does slot.call (sound_get (length ledger.rows) calls i slot all e)))

  acted_at_place : (o : Option ℕ) → load_of (acted_on f calls ledger tokens o).ledger.rows (acted_on f calls ledger tokens o).calls ≤ load_of ledger.rows calls
  acted_at_place None = self_less (load_of ledger.rows calls)
  acted_at_place (Some i) = acted_by i (slice_get calls i) refl

  pub acted_low : (number : ℕ) → load_of (acted f calls number ledger tokens).ledger.rows (acted f calls number ledger tokens).calls ≤ load_of ledger.rows calls
  acted_low number = acted_at_place (index_at number (length calls))

-- the call of a number, by so much
place_of : (calls : List CallSlot) (n : ℕ) (slot : CallSlot) → numbered calls n ≡ Some slot → slice_get calls (n - 1) ≡ Some slot
place_of calls zero slot e = absurd (let bad : None ≡ Some slot = e in (cc))
place_of calls (suc i) slot e = let at : suc i - 1 ≡ i = omega arith in ap (slice_get calls) at ∙ e

pub acted_strict : (f : Stepped → Stepped) (ledger : Ledger) (tokens : Option Bucket) (calls : List CallSlot) (number : ℕ) (slot : CallSlot) → numbered calls number ≡ Some slot
    → Lowers 1 (lent slot.call ledger tokens []) (f (lent slot.call ledger tokens []))
    → load_of (acted f calls number ledger tokens).ledger.rows (acted f calls number ledger tokens).calls + 1 ≤ load_of ledger.rows calls
acted_strict f ledger tokens calls number slot there low =
    let t : Stepped = f (lent slot.call ledger tokens []) in
    let new : CallSlot = record slot { call = t.call } in
    subst (λ (a : Acted). load_of a.ledger.rows a.calls + 1 ≤ load_of ledger.rows calls) (sym (acted_is f calls number ledger tokens slot there))
    (set_load 1 (waiting ledger.rows) (waiting t.ledger.rows) calls (number - 1) slot new (place_of calls number slot there) low)

-- a call, or its slot, is changed beside that
same_may : (c d : CallState) → d.attempts ≡ c.attempts → may d ≡ may c
same_may c d e = ap (λ (a : Attempts). if a.stopped then 0 else 5 - a.sent) e

same_load : (w a b : ℕ) → a ≡ b → w + 2 * a + 0 ≤ w + 2 * b
same_load w a b e = omega (arith, e)

module _ (f : CallSlot → CallSlot) (is : (slot : CallSlot) → (f slot).call.attempts ≡ slot.call.attempts) (rows : List Row) (calls : List CallSlot) where
  slot_by : (i : ℕ) (o : Option CallSlot) → slice_get calls i ≡ o → load_of rows (changed_slot_at f calls i o) ≤ load_of rows calls
  slot_by i None e = self_less (load_of rows calls)
  slot_by i (Some slot) e =
      drop_zero (load_of rows (slice_set calls i (f slot))) (load_of rows calls)
      (set_load 0 (waiting rows) (waiting rows) calls i slot (f slot) e
      (same_load (waiting rows) (may (f slot).call) (may slot.call) (same_may slot.call (f slot).call (is slot))))

  slot_on : (o : Option ℕ) → load_of rows (changed_slot_on f calls o) ≤ load_of rows calls
  slot_on None = self_less (load_of rows calls)
  slot_on (Some i) = slot_by i (slice_get calls i) refl

  pub slot_low : (number : ℕ) → load_of rows (changed_slot f calls number) ≤ load_of rows calls
  slot_low number = slot_on (index_at number (length calls))

module _ (f : CallState → CallState) (is : (c : CallState) → (f c).attempts ≡ c.attempts) (rows : List Row) (calls : List CallSlot) where
  call_by : (i : ℕ) (o : Option CallSlot) → slice_get calls i ≡ o → load_of rows (changed_call_at f calls i o) ≤ load_of rows calls
  call_by i None e = self_less (load_of rows calls)
  call_by i (Some slot) e =
      let new : CallSlot = record slot { call = f slot.call } in
      drop_zero (load_of rows (slice_set calls i new)) (load_of rows calls)
      (set_load 0 (waiting rows) (waiting rows) calls i slot new e
      (same_load (waiting rows) (may (f slot.call)) (may slot.call) (same_may slot.call (f slot.call) (is slot.call))))

  call_on : (o : Option ℕ) → load_of rows (changed_call_on f calls o) ≤ load_of rows calls
  call_on None = self_less (load_of rows calls)
  call_on (Some i) = call_by i (slice_get calls i) refl

  pub call_low : (number : ℕ) → load_of rows (changed_call f calls number) ≤ load_of rows calls
  call_low number = call_on (index_at number (length calls))

-- whatever is done in a round
pub record Falling (s t : StateSeen) : Type 0 where
  pub settled : Settled s t
  pub less : load t ≤ load s

abbrev pub Falls : StateSeen → StateSeen → Type 0
Falls s t = AreSound s → Falling s t

falls : (s t : StateSeen) → Settles s t → (AreSound s → load t ≤ load s) → Falls s t
falls s t settles less sound = record { settled = settles sound; less = less sound }

falls_joined : (joined : (s t u : StateSeen) → Settles s t → Settles t u → Settles s u) (s t u : StateSeen) → Falls s t → Falls t u → Falls s u
falls_joined joined s t u first second sound =
    let a : Falling s t = first sound in
    let b : Falling t u = second a.settled.kept.sound in
    record {
      settled = joined s t u (λ k. (first k).settled) (λ k. (second k).settled) sound;
      less = less_on (load u) (load t) (load s) b.less a.less;
    }

same_book : (s t : StateSeen) → t.book ≡ s.book → load t ≤ load s
same_book s t e = let same : load t ≡ load s = ap (λ (b : Book). load_of b.ledger.rows b.calls) e in omega (arith, same)

module _ (laws : CallLaws) where
  abbrev r : IsQuietActionInvariant Settles
  r = rests laws

  timed : (moment : ℕ) (ledger : Ledger) (tokens : Option Bucket) (c : CallState) → SoundCall (length ledger.rows) c
      → Lowers 0 (lent c ledger tokens []) (call.timed_out moment (lent c ledger tokens []))
  timed moment ledger tokens c k =
      lowers_by (lent c ledger tokens []) (call.timed_out moment (lent c ledger tokens [])) (leaves_timed moment (lent c ledger tokens []))

  closed : (why : EndCause) (moment : ℕ) (ledger : Ledger) (tokens : Option Bucket) (c : CallState) → SoundCall (length ledger.rows) c
      → Lowers 0 (lent c ledger tokens []) (call.closed_by why moment (lent c ledger tokens []))
  closed why moment ledger tokens c k =
      lowers_by (lent c ledger tokens []) (call.closed_by why moment (lent c ledger tokens [])) (leaves_closed why moment (lent c ledger tokens []))

  made : (moment : ℕ) (ledger : Ledger) (tokens : Option Bucket) (c : CallState) → SoundCall (length ledger.rows) c
      → Lowers 0 (lent c ledger tokens []) (call.made_due moment (lent c ledger tokens []))
  made moment ledger tokens c k = lowers_made moment (lent c ledger tokens []) k.sized

  failed : (row moment word : ℕ) (ledger : Ledger) (tokens : Option Bucket) (c : CallState) → SoundCall (length ledger.rows) c
      → Lowers 0 (lent c ledger tokens []) (call.pick_failed row moment word (lent c ledger tokens []))
  failed row moment word ledger tokens c k =
      lowers_by (lent c ledger tokens []) (call.pick_failed row moment word (lent c ledger tokens [])) (leaves_failed row moment word (lent c ledger tokens []))

  placed : (row : ℕ) (at : Placed) (ledger : Ledger) (tokens : Option Bucket) (c : CallState) → SoundCall (length ledger.rows) c
      → Lowers 0 (lent c ledger tokens []) (call.placed_at row at (lent c ledger tokens []))
  placed row at ledger tokens c k =
      lowers_by (lent c ledger tokens []) (call.placed_at row at (lent c ledger tokens [])) (leaves_placed row at (lent c ledger tokens []))

  pub falling : IsQuietActionInvariant Falls
  falling = record {
    joined = falls_joined r.joined;
    beside = λ s t book held links shut. falls s t (r.beside s t book held links shut) (λ k. same_book s t book);
    timed_out = λ number s. falls s _ (r.timed_out number s) (λ k. acted_low (call.timed_out s.book.moment) s.book.ledger _ s.book.calls k.calls (timed s.book.moment s.book.ledger _) number);
    closed = λ why number s by. falls s _ (r.closed why number s by) (λ k. acted_low (call.closed_by why s.book.moment) s.book.ledger _ s.book.calls k.calls (closed why s.book.moment s.book.ledger _) number);
    made = λ number s. falls s _ (r.made number s) (λ k. acted_low (call.made_due s.book.moment) s.book.ledger _ s.book.calls k.calls (made s.book.moment s.book.ledger _) number);
    failed = λ row number s. falls s _ (r.failed row number s) (λ k. acted_low (call.pick_failed row s.book.moment (next_word s)) s.book.ledger _ s.book.calls k.calls (failed row s.book.moment (next_word s) s.book.ledger _) number);
    placed = λ row at number s entry moment. falls s _ (r.placed row at number s entry moment) (λ k. acted_low (call.placed_at row at) s.book.ledger None s.book.calls k.calls (placed row at s.book.ledger None) number);
    taken = λ number s. falls s _ (r.taken number s) (λ k. call_low call.taken (λ c. (taken_same c).attempts) s.book.ledger.rows s.book.calls number);
    timers = λ due deadline number s. falls s _ (r.timers due deadline number s) (λ k. slot_low (with_timers due deadline) (λ slot. refl) s.book.ledger.rows s.book.calls number);
    forgotten = λ number s. falls s _ (r.forgotten number s) (λ k. slot_low without_due (λ slot. refl) s.book.ledger.rows s.book.calls number);
    asked = λ a s entry. falls s _ (r.asked a s entry) (λ k. self_less (load s));
    gone = λ link s. falls s _ (r.gone link s) (λ k. self_less (load s));
    added = λ kind s. falls s _ (r.added kind s) (λ k. self_less (load s));
    activated = λ number s. falls s _ (r.activated number s) (λ k. self_less (load s));
    retired = λ number s. falls s _ (r.retired number s) (λ k. self_less (load s));
  }
