-- A call of the channel does something by which its attempts, its end and its config stay: its timers stay, nothing is sealed, and its slot alone changes.
use Rattle.attempt_ledger.specs.declared.ledger.CallEnd.{CallEnd}
use Rattle.call_actions.proofs.Dues.{attempts_are_due}
use Rattle.call_core.specs.Steps as steps
use Rattle.call_core.specs.Steps.{Stepped, lent}
use Rattle.call_core.specs.declared.state.CallState.{CallState}
use Rattle.call_cases.proofs.CallPosts.Agreeing.{IsPut}
use Rattle.channel_actions.specs.Calls.{SeesCall, lent_to}
use Rattle.channel_core.specs.Books.{bucket_at, deadline_of, due_at, placed_in_book, slot_at, timers_set}
use Rattle.channel_core.specs.States.{StateSeen}
use Rattle.channel_core.specs.Steps.{call_asked, links_sealed, sealed, timers_moved, timers_moved_to, with_book}
use Rattle.channel_core.specs.Tables.{Acted, acted, acted_as, acted_at, acted_on, changed_slot_at, changed_slot_on, numbered, tokens_in, with_call, with_timers}
use Rattle.channel_core.specs.Timing.{is_same_moment, timer_moved, timer_off, timer_on}
use Rattle.channel_core.specs.declared.state.book.Book.{Book}
use Rattle.channel_core.specs.declared.state.slots.CallSlot.{CallSlot}
use Rattle.a6_numbers.specs.Throttling.{Bucket}
use Rattle.grpc_base.specs.declared.event.EndCause.{EndCause}
use Rattle.session_actions.specs.declared.call.Call.{Call}
use Rattle.session_actions.specs.declared.seen.Seen.{Seen}
use Rattle.call_actions.proofs.TakeActions.Deadlines.{deadline_is}
use Rattle.ledger_stamps.specs.Steps.{index_at}
use Rattle.std.proofs.Common.{Bool, List, None, Option, Some, [], ap, arith, false, if◌then◌else◌, is_none, length, option_map, refl, slice_get, slice_set, suc, sym, true, zero, ℕ, ◌<◌, ◌==◌, ◌∙◌, ◌∷◌, ◌≡◌}
use Rattle.std.proofs.lemmas.Bool.{eqb-false, eq-eqb, lt-ltb}
use Rattle.call_actions.proofs.TakeActions.Retold.{set_same}

-- a thing of a list is at an index
within : {X : Type 0} (xs : List X) (i : ℕ) (x : X) → slice_get xs i ≡ Some x → i < length xs
within [] i x e = absurd (cc)
within (z ∷ xs) zero x e = omega arith
within (z ∷ xs) (suc i) x e = let next : i < length xs = within xs i x e in omega arith

index_is : {X : Type 0} (xs : List X) (i : ℕ) (x : X) → slice_get xs i ≡ Some x → index_at (suc i) (length xs) ≡ Some i
index_is xs i x e = ap (λ (b : Bool). if b then Some i else None) (lt-ltb i (length xs) (within xs i x e))

set_here : {X : Type 0} (xs : List X) (i : ℕ) (x z : X) → slice_get xs i ≡ Some x → slice_get (slice_set xs i z) i ≡ Some z
set_here [] i x z e = absurd (cc)
set_here (y ∷ xs) zero x z e = refl
set_here (y ∷ xs) (suc i) x z e = set_here xs i x z e

set_away : {X : Type 0} (xs : List X) (i j : ℕ) (z : X) → (j ≡ i → ⊥) → slice_get (slice_set xs i z) j ≡ slice_get xs j
set_away [] i j z away = refl
set_away (y ∷ xs) zero zero z away = absurd (away refl)
set_away (y ∷ xs) zero (suc j) z away = refl
set_away (y ∷ xs) (suc i) zero z away = refl
set_away (y ∷ xs) (suc i) (suc j) z away = set_away xs i j z (λ e. away (ap suc e))

set_long : {X : Type 0} (xs : List X) (i : ℕ) (z : X) → length (slice_set xs i z) ≡ length xs
set_long [] i z = refl
set_long (y ∷ xs) zero z = refl
set_long (y ∷ xs) (suc i) z = ap suc (set_long xs i z)

-- the slot of a number is put
others_by : (calls : List CallSlot) (i k : ℕ) (z : CallSlot) → (k == suc i) ≡ false → numbered (slice_set calls i z) k ≡ numbered calls k
others_by calls i zero z off = refl
others_by calls i (suc j) z off = set_away calls i j z (λ e. eqb-false (suc j) (suc i) off (ap suc e))

set_put : (calls : List CallSlot) (i : ℕ) (slot : CallSlot) (k : CallState) → slice_get calls i ≡ Some slot → IsPut (suc i) k slot calls (slice_set calls i (with_call k slot))
set_put calls i slot k e = record {
  long = set_long calls i (with_call k slot);
  mine = set_here calls i slot (with_call k slot) e;
  others = λ j off. others_by calls i j (with_call k slot) off;
}

-- timers that are right stay
same_moment : (o : Option ℕ) → is_same_moment o o ≡ true
same_moment None = refl
same_moment (Some n) = eq-eqb n n refl

timer_same : (n : ℕ) (o : Option ℕ) (timers : List (ℕ × ℕ)) → timer_moved n o o timers ≡ timers
timer_same n o timers = ap (λ (b : Bool). if b then timers else timer_on n o (timer_off n o timers)) (same_moment o)

set_timers : (b : Book) (i : ℕ) (slot : CallSlot) → slice_get b.calls i ≡ Some slot → timers_set slot.due slot.deadline (suc i) b ≡ b
set_timers b i slot e =
    ap (λ (o : Option ℕ). record b { calls = changed_slot_on (with_timers slot.due slot.deadline) b.calls o }) (index_is b.calls i slot e)
    ∙ ap (λ (o : Option CallSlot). record b { calls = changed_slot_at (with_timers slot.due slot.deadline) b.calls i o }) e
    ∙ ap (λ (l : List CallSlot). record b { calls = l }) (set_same b.calls i slot e)

timers_stay : (i : ℕ) (z : StateSeen) (slot : CallSlot) → slice_get z.book.calls i ≡ Some slot → due_at (Some slot) ≡ slot.due → deadline_of (Some slot) ≡ slot.deadline
    → timers_moved (suc i) z ≡ z
timers_stay i z slot e due_is is_deadline =
    ap (λ (o : Option CallSlot). timers_moved_to (suc i) o z) e
    ∙ ap (λ (d : Option ℕ). record z { dues = timer_moved (suc i) slot.due d z.dues; deadlines = timer_moved (suc i) slot.deadline (deadline_of (Some slot)) z.deadlines; book = timers_set d (deadline_of (Some slot)) (suc i) z.book }) due_is
    ∙ ap (λ (d : Option ℕ). record z { dues = timer_moved (suc i) slot.due slot.due z.dues; deadlines = timer_moved (suc i) slot.deadline d z.deadlines; book = timers_set slot.due d (suc i) z.book }) is_deadline
    ∙ ap (λ (l : List (ℕ × ℕ)). record z { dues = l; deadlines = timer_moved (suc i) slot.deadline slot.deadline z.deadlines; book = timers_set slot.due slot.deadline (suc i) z.book }) (timer_same (suc i) slot.due z.dues)
    ∙ ap (λ (l : List (ℕ × ℕ)). record z { deadlines = l; book = timers_set slot.due slot.deadline (suc i) z.book }) (timer_same (suc i) slot.deadline z.deadlines)
    ∙ ap (λ (b : Book). record z { book = b }) (set_timers z.book i slot e)

-- a call that is asked so
pub record IsAsked (x : StateSeen) (n : ℕ) (slot : CallSlot) (k : CallState) (y : StateSeen) : Type 0 where
  pub calls : List CallSlot
  pub put : IsPut n k slot x.book.calls calls
  pub is : y ≡ record x { book = record x.book { calls = calls } }
  pub same : k ≡ slot.call → calls ≡ x.book.calls

asked_at : (step : Stepped → Stepped) (x : StateSeen) (i : ℕ) (slot : CallSlot) (k : CallState) → x.resets ≡ [] → slice_get x.book.calls i ≡ Some slot
    → step (lent slot.call x.book.ledger (tokens_in x.book.buckets slot.bucket) []) ≡ lent k x.book.ledger (tokens_in x.book.buckets slot.bucket) []
    → due_at (Some (with_call k slot)) ≡ slot.due → deadline_of (Some (with_call k slot)) ≡ slot.deadline → IsAsked x (suc i) slot k (sealed (call_asked step (suc i) x))
asked_at step x i slot k unreset e gives due_is is_deadline =
    let tokens : Option Bucket = tokens_in x.book.buckets slot.bucket in
    let calls : List CallSlot = slice_set x.book.calls i (with_call k slot) in
    let after : StateSeen = record x { book = record x.book { calls = calls } } in
    let acted_is : acted step x.book.calls (suc i) x.book.ledger tokens ≡ acted_as x.book.calls i slot (lent k x.book.ledger tokens [])
    = ap (acted_on step x.book.calls x.book.ledger tokens) (index_is x.book.calls i slot e) ∙ ap (acted_at step x.book.calls i x.book.ledger tokens) e
    ∙ ap (acted_as x.book.calls i slot) gives in
    let lends : acted step x.book.calls (suc i) x.book.ledger (tokens_in x.book.buckets (bucket_at (slot_at x.book (suc i)))) ≡ acted step x.book.calls (suc i) x.book.ledger tokens
    = ap (λ (o : Option CallSlot). acted step x.book.calls (suc i) x.book.ledger (tokens_in x.book.buckets (bucket_at o))) e in
    let asked : call_asked step (suc i) x ≡ after
    = ap (λ (a : Acted). with_book (placed_in_book a x.book) (suc i) x) (lends ∙ acted_is)
    ∙ timers_stay i after (with_call k slot) (set_here x.book.calls i slot (with_call k slot) e) due_is is_deadline in
    record {
      calls = calls;
      put = set_put x.book.calls i slot k e;
      is = ap sealed asked ∙ ap (λ (l : List ℕ). links_sealed l (record after { resets = [] })) unreset ∙ ap (λ (l : List ℕ). record after { resets = l }) (sym unreset);
      same = λ f. ap (λ (z : CallState). slice_set x.book.calls i (with_call z slot)) f ∙ set_same x.book.calls i slot e;
    }

pub asked : (step : Stepped → Stepped) (x : StateSeen) (n : ℕ) (slot : CallSlot) (k : CallState) → x.resets ≡ [] → slot_at x.book n ≡ Some slot
    → step (lent slot.call x.book.ledger (tokens_in x.book.buckets slot.bucket) []) ≡ lent k x.book.ledger (tokens_in x.book.buckets slot.bucket) []
    → due_at (Some (with_call k slot)) ≡ slot.due → deadline_of (Some (with_call k slot)) ≡ slot.deadline → IsAsked x n slot k (sealed (call_asked step n x))
asked step x zero slot k unreset e gives due_is is_deadline = absurd (cc)
asked step x (suc i) slot k unreset e gives due_is is_deadline = asked_at step x i slot k unreset e gives due_is is_deadline

-- two steps that do the same to a call do the same to the channel
acted_by : (step : Stepped → Stepped) (x : StateSeen) (i : ℕ) (slot : CallSlot) → slice_get x.book.calls i ≡ Some slot
    → acted step x.book.calls (suc i) x.book.ledger (tokens_in x.book.buckets (bucket_at (slot_at x.book (suc i))))
    ≡ acted_as x.book.calls i slot (step (lent slot.call x.book.ledger (tokens_in x.book.buckets slot.bucket) []))
acted_by step x i slot e =
    ap (λ (o : Option CallSlot). acted step x.book.calls (suc i) x.book.ledger (tokens_in x.book.buckets (bucket_at o))) e
    ∙ ap (acted_on step x.book.calls x.book.ledger (tokens_in x.book.buckets slot.bucket)) (index_is x.book.calls i slot e)
    ∙ ap (acted_at step x.book.calls i x.book.ledger (tokens_in x.book.buckets slot.bucket)) e

pub asked_alike : (f g : Stepped → Stepped) (x : StateSeen) (n : ℕ) (slot : CallSlot) → slot_at x.book n ≡ Some slot
    → f (lent slot.call x.book.ledger (tokens_in x.book.buckets slot.bucket) []) ≡ g (lent slot.call x.book.ledger (tokens_in x.book.buckets slot.bucket) [])
    → call_asked f n x ≡ call_asked g n x
asked_alike f g x zero slot e same = absurd (cc)
asked_alike f g x (suc i) slot e same =
    ap (λ (a : Acted). with_book (placed_in_book a x.book) (suc i) x)
    (acted_by f x i slot e ∙ ap (acted_as x.book.calls i slot) same ∙ sym (acted_by g x i slot e))

-- the timers of a call that agrees are right
none_map : (o : Option CallEnd) → is_none (option_map (λ (e : CallEnd). e.cause) o) ≡ is_none o
none_map None = refl
none_map (Some e) = refl

module _ (x : StateSeen) (s : Seen) (c : Call) (slot : CallSlot) (h : SeesCall x s c slot) where
  open_same : is_none slot.call.ended ≡ is_none c.end
  open_same = sym (ap (λ (o : Option EndCause). is_none o) h.serves.sees.ended) ∙ none_map c.end

  pub due_right : due_at (Some slot) ≡ slot.due
  due_right =
      ap (λ (b : Bool). if b then steps.next_due slot.call else None) open_same
      ∙ ap (λ (d : Option ℕ). if is_none c.end then d else None) (sym (attempts_are_due s c (lent_to x s slot) h.serves.sees)) ∙ h.due

  pub deadline_right : deadline_of (Some slot) ≡ slot.deadline
  deadline_right =
      ap (λ (b : Bool). if b then steps.deadline_at slot.call else None) open_same
      ∙ ap (λ (d : Option ℕ). if is_none c.end then d else None) (sym (deadline_is s c (lent_to x s slot) h.serves)) ∙ h.deadline_is
