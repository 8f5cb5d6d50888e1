-- What a call does in the channel, where the call of the number is known.
use Rattle.std.proofs.Common.{◌≡◌, ◌∙◌, ◌-◌, ◌==◌, ℕ, zero, suc, Bool, false, nat_lt, if◌then◌else◌, List, [], ◌∷◌, length, refl, sym, ap, inl, inr, arith, slice_get, slice_set, Option, Some, None}
use Rattle.std.proofs.lemmas.Bool.{cases_Bool, ltb-false}
use Rattle.std.proofs.lemmas.Bool.Decides.{nat_tests}
use Rattle.std.proofs.lemmas.Option.{slice_get_past}
use Rattle.a6_numbers.specs.Throttling.{Bucket}
use Rattle.attempt_ledger.specs.declared.ledger.Ledger.{Ledger}
use Rattle.call_core.specs.Steps.{Stepped, lent}
use Rattle.channel_core.specs.Books.{book_asked, bucket_at, placed_in_book, slot_at}
use Rattle.channel_core.specs.Tables.{Acted, acted, acted_as, acted_at, acted_on, changed_slot, changed_slot_at, changed_slot_on, numbered, tokens_in}
use Rattle.channel_core.specs.declared.state.book.Book.{Book}
use Rattle.channel_core.specs.declared.state.slots.CallSlot.{CallSlot}

-- the call of a number does something
pub acted_is : (f : Stepped → Stepped) (calls : List CallSlot) (n : ℕ) (ledger : Ledger) (tokens : Option Bucket) (slot : CallSlot) → numbered calls n ≡ Some slot
    → acted f calls n ledger tokens ≡ acted_as calls (n - 1) slot (f (lent slot.call ledger tokens []))
acted_is f calls zero ledger tokens slot is = absurd (cc)
acted_is f calls (suc k) ledger tokens slot is =
    let D : Bool → Acted = λ b. acted_on f calls ledger tokens (if b then Some k else None) in
    let place : suc k - 1 ≡ k = omega arith in
    elim (cases_Bool (nat_lt k (length calls))) [
      | inl inside ↦
          ap D inside ∙ ap (acted_at f calls k ledger tokens) is
          ∙ sym (ap (λ (i : ℕ). acted_as calls i slot (f (lent slot.call ledger tokens []))) place)
      | inr out ↦ let e : None ≡ Some slot = sym (slice_get_past calls k (ltb-false k (length calls) out)) ∙ is in absurd (cc)
    ]

pub asked_is : (f : Stepped → Stepped) (n : ℕ) (b : Book) (slot : CallSlot) → slot_at b n ≡ Some slot
    → book_asked f n b ≡ placed_in_book (acted_as b.calls (n - 1) slot (f (lent slot.call b.ledger (tokens_in b.buckets slot.bucket) []))) b
asked_is f n b slot is =
    ap (λ (o : Option CallSlot). placed_in_book (acted f b.calls n b.ledger (tokens_in b.buckets (bucket_at o))) b) is
    ∙ ap (λ (a : Acted). placed_in_book a b) (acted_is f b.calls n b.ledger (tokens_in b.buckets slot.bucket) slot is)

pub changed_slot_is : (f : CallSlot → CallSlot) (calls : List CallSlot) (n : ℕ) (slot : CallSlot) → numbered calls n ≡ Some slot
    → changed_slot f calls n ≡ slice_set calls (n - 1) (f slot)
changed_slot_is f calls zero slot is = absurd (cc)
changed_slot_is f calls (suc k) slot is =
    let D : Bool → List CallSlot = λ b. changed_slot_on f calls (if b then Some k else None) in
    let place : suc k - 1 ≡ k = omega arith in
    elim (cases_Bool (nat_lt k (length calls))) [
      | inl inside ↦ ap D inside ∙ ap (changed_slot_at f calls k) is ∙ sym (ap (λ (i : ℕ). slice_set calls i (f slot)) place)
      | inr out ↦ let e : None ≡ Some slot = sym (slice_get_past calls k (ltb-false k (length calls) out)) ∙ is in absurd (cc)
    ]

-- the others are as they were
set_away : {X : Type 0} (xs : List X) (k j : ℕ) (v : X) → (j == k) ≡ false → slice_get (slice_set xs k v) j ≡ slice_get xs j
set_away [] k j v e = refl
set_away (x ∷ xs) zero zero v e = absurd (cc)
set_away (x ∷ xs) zero (suc j) v e = refl
set_away (x ∷ xs) (suc k) zero v e = refl
set_away (x ∷ xs) (suc k) (suc j) v e = set_away xs k j v (let less : (j == k) ≡ false = grind (arith, nat_tests) in less)

pub put_away : {X : Type 0} (xs : List X) (n m : ℕ) (x v : X) → numbered xs n ≡ Some x → (m == n) ≡ false → numbered (slice_set xs (n - 1) v) m ≡ numbered xs m
put_away xs zero m x v is e = absurd (cc)
put_away xs (suc k) zero x v is e = refl
put_away xs (suc k) (suc j) x v is e =
    let place : suc k - 1 ≡ k = omega arith in
    ap (λ (i : ℕ). slice_get (slice_set xs i v) j) place ∙ set_away xs k j v (let less : (j == k) ≡ false = grind (arith, nat_tests) in less)

pub set_twice : {X : Type 0} (xs : List X) (k : ℕ) (u v : X) → slice_set (slice_set xs k u) k v ≡ slice_set xs k v
set_twice [] k u v = refl
set_twice (x ∷ xs) zero u v = refl
set_twice (x ∷ xs) (suc k) u v = ap (λ (l : List _). x ∷ l) (set_twice xs k u v)

pub set_length : {X : Type 0} (xs : List X) (k : ℕ) (v : X) → length (slice_set xs k v) ≡ length xs
set_length [] k v = refl
set_length (x ∷ xs) zero v = refl
set_length (x ∷ xs) (suc k) v = ap suc (set_length xs k v)
