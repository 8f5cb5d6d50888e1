-- The channel begins a call: one slot more, at the end of its table, with the deadline that its application asked for.
use Rattle.call_core.specs.Steps.{deadline_at, new_call}
use Rattle.channel_core.specs.Arrivals.{begun_by}
use Rattle.channel_core.specs.Books.{fresh_slot}
use Rattle.channel_core.specs.States.{StateSeen}
use Rattle.channel_core.specs.Steps.{unconfigured_added, begun, says_yes, timers_moved, timers_moved_to}
use Rattle.channel_core.specs.Tables.{changed_slot, changed_slot_at, changed_slot_on, with_timers}
use Rattle.channel_core.specs.Timing.{timer_moved}
use Rattle.channel_core.specs.declared.state.slots.CallSlot.{CallSlot}
use Rattle.grpc_base.specs.Requests.{RequestSeen}
use Rattle.grpc_base.specs.declared.event.Reply.TheVariants as reply
use Rattle.ledger_stamps.specs.Steps.{begun_call, index_at}
use Rattle.picker_gate.specs.Pairs.{pair_cmp}
use Rattle.channel_core.specs.Tables as table
use Rattle.std.proofs.Common.{Bool, List, None, Option, Some, [], ap, arith, false, if◌then◌else◌, length, refl, slice_get, slice_set, suc, zero, ℕ, ◌++◌, ◌+◌, ◌<◌, ◌==◌, ◌∙◌, ◌∷◌, ◌≡◌}
use Rattle.std.proofs.lemmas.Bool.{eqb-false, lt-ltb}
use Rattle.std.specs.BTreeSet.{insert_key}

pub there : {X : Type 0} (xs : List X) (y : X) → slice_get (xs ++ y ∷ []) (length xs) ≡ Some y
there [] y = refl
there (x ∷ xs) y = there xs y

put_last : {X : Type 0} (xs : List X) (y z : X) → slice_set (xs ++ y ∷ []) (length xs) z ≡ xs ++ z ∷ []
put_last [] y z = refl
put_last (x ∷ xs) y z = ap (λ (l : List _). x ∷ l) (put_last xs y z)

away_from : {X : Type 0} (xs : List X) (y : X) (k : ℕ) → (k ≡ length xs → ⊥) → slice_get (xs ++ y ∷ []) k ≡ slice_get xs k
away_from [] y zero away = absurd (away refl)
away_from [] y (suc k) away = refl
away_from (z ∷ xs) y zero away = refl
away_from (z ∷ xs) y (suc k) away = away_from xs y k (λ e. away (ap suc e))

-- of another number there is what there was
pub others : {X : Type 0} (xs : List X) (y : X) (k : ℕ) → (k == suc (length xs)) ≡ false → table.numbered (xs ++ y ∷ []) k ≡ table.numbered xs k
others xs y zero off = refl
others xs y (suc k) off = away_from xs y k (λ e. eqb-false (suc k) (suc (length xs)) off (ap suc e))

pub longer : {X : Type 0} (xs : List X) (y : X) → length (xs ++ y ∷ []) ≡ suc (length xs)
longer [] y = refl
longer (x ∷ xs) y = ap suc (longer xs y)

index_last : (n : ℕ) → index_at (suc n) (suc n) ≡ Some n
index_last n = ap (λ (b : Bool). if b then Some n else None) (lt-ltb n (suc n) (let below : n < suc n = omega arith in below))

pub changed_last : (f : CallSlot → CallSlot) (xs : List CallSlot) (y : CallSlot) → changed_slot f (xs ++ y ∷ []) (suc (length xs)) ≡ xs ++ f y ∷ []
changed_last f xs y =
    ap (λ (n : ℕ). changed_slot_on f (xs ++ y ∷ []) (index_at (suc (length xs)) n)) (longer xs y)
    ∙ ap (changed_slot_on f (xs ++ y ∷ [])) (index_last (length xs))
    ∙ ap (changed_slot_at f (xs ++ y ∷ []) (length xs)) (there xs y) ∙ put_last xs y (f y)

-- the channel after it
abbrev pub new_slot : ℕ → Option ℕ → RequestSeen → StateSeen → CallSlot
new_slot n d request x = record { call = new_call n request x.book.moment; bucket = 0; due = None; deadline = d }

abbrev pub begun_with : ℕ → Option ℕ → RequestSeen → StateSeen → StateSeen
begun_with n d request x = record x {
  deadlines = timer_moved n None d x.deadlines;
  awaiting_config = insert_key pair_cmp x.awaiting_config (0, n);
  fail_fast = if says_yes request.wait then x.fail_fast else insert_key pair_cmp x.fail_fast (0, n);
  book = record x.book {
    calls = x.book.calls ++ new_slot n d request x ∷ [];
    ledger = record x.book.ledger { calls = x.book.ledger.calls ++ begun_call x.book.ledger.entry ∷ [] };
  };
}

-- (the number is after those of the ledger and of the table)
module _ (x : StateSeen) (request : RequestSeen) (n : ℕ) (ledger_is : length x.book.ledger.calls + 1 ≡ n) (here : n ≡ suc (length x.book.calls)) where
  abbrev d : Option ℕ
  d = deadline_at (new_call n request x.book.moment)

  abbrev slot : CallSlot
  slot = fresh_slot n request x.book.moment

  abbrev z : StateSeen
  z = unconfigured_added n (says_yes request.wait)
      (record x {
        book = record x.book { calls = x.book.calls ++ slot ∷ []; ledger = record x.book.ledger { calls = x.book.ledger.calls ++ begun_call x.book.ledger.entry ∷ [] } };
      })

  begun_is : begun request x ≡ timers_moved n z
  begun_is =
      ap
      (λ (k : ℕ).
      timers_moved k
      (unconfigured_added k (says_yes request.wait)
      (record x {
        book = record x.book {
          calls = x.book.calls ++ fresh_slot k request x.book.moment ∷ [];
          ledger = record x.book.ledger { calls = x.book.ledger.calls ++ begun_call x.book.ledger.entry ∷ [] };
        };
      }))) ledger_is

  found : table.numbered (x.book.calls ++ slot ∷ []) n ≡ Some slot
  found = ap (table.numbered (x.book.calls ++ slot ∷ [])) here ∙ there x.book.calls slot

  moved_is : timers_moved n z ≡ timers_moved_to n (Some slot) z
  moved_is = ap (λ (o : Option CallSlot). timers_moved_to n o z) found

  put_is : changed_slot (with_timers None d) (x.book.calls ++ slot ∷ []) n ≡ x.book.calls ++ new_slot n d request x ∷ []
  put_is = ap (changed_slot (with_timers None d) (x.book.calls ++ slot ∷ [])) here ∙ changed_last (with_timers None d) x.book.calls slot

  set_is : timers_moved_to n (Some slot) z ≡ begun_with n d request x
  set_is = ap (λ (l : List CallSlot). record (begun_with n d request x) { book = record (begun_with n d request x).book { calls = l } }) put_is

  pub begun_so : begun request x ≡ begun_with n d request x
  begun_so = begun_is ∙ moved_is ∙ set_is

  pub reply_is : (begun_by request x).reply ≡ reply.Call n
  reply_is = ap (λ (k : ℕ). reply.Call k) ledger_is
